-- What `side` and `area` promise: the power of 2 or of 4 that a level stands for, with the bounds that a caller's sums need.
use Rattle.std.specs.Prelude.{◌≡◌, ℕ, ◌^◌, ◌<◌, ◌≤◌}

-- the highest level that is provided for; the limit of a map's size may rise to it
abbrev pub highest : ℕ
highest = 15

pub record Power (b level r : ℕ) : Type 0 where
  pub is : r ≡ b ^ level
  pub low : 0 < r
  pub high : r ≤ b ^ highest
