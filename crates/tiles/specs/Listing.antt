-- The picture that a tile is, and what the functions ask that make its list.
use Rattle.std.specs.Prelude.{List, ℕ, ◌+◌, ◌-◌, ◌^◌, ◌<◌, ◌≤◌, get_or}
use Rattle.morton.specs.Power.{highest}
use Rattle.shortest.specs.Written.{Placed}

-- a tile as a picture over codes, its first cell at the code k
abbrev pub spots : List ℕ → ℕ → ℕ → ℕ
spots tile k j = get_or tile (j - k) 0

-- the block of the level at the code k lies in the tile that begins at the code `first`
pub record Counts (first k level : ℕ) : Type 0 where
  pub some : 0 < level
  pub from : first ≤ k
  pub to : k + 4 ^ level ≤ first + 256
  pub small : first + 256 ≤ 4 ^ highest

-- and its list is written from the place `at` on
pub record Puts (tile out : List ℕ) (at first k level : ℕ) : Type 0 where
  pub counts : Counts first k level
  pub placed : Placed (spots tile first) out at level k
