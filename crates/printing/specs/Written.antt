-- What a function promises that writes at the front of the memory lent: how many bytes, and which; behind them the memory stays.
use Rattle.std.specs.Prelude.{◌≡◌, List, ◌++◌, ℕ, length, drop}

pub record Written (bytes old new : List ℕ) (count : ℕ) : Type 0 where
  pub counted : count ≡ length bytes
  pub left : new ≡ bytes ++ drop (length bytes) old
