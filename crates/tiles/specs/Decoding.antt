-- What the functions ask that decode a tile of a map.
use Rattle.std.specs.Prelude.{◌≡◌, cond, List, ℕ, ◌+◌, ◌-◌, ◌%◌, ◌^◌, ◌<◌, ◌≤◌, ltb}
use Rattle.tiling.specs.Leaf.{end_of}
use Rattle.probe.specs.Seen.{Holds}
use Rattle.probe.specs.declared.seen.Seen.{Seen}
use Rattle.probe.specs.declared.seen.Seen.TheVariants.{One, Mixed}
use Rattle.probe.specs.Biased.{cell_about}
use Rattle.tiles.specs.Tile.{Steps}

-- where a leaf's cells end among those of the 256 codes from k on, the first at the place `from`
abbrev pub last_of : ℕ → ℕ → ℕ → ℕ
last_of w k from = cond (ltb (end_of w - k) 256) (from + (end_of w - k)) (from + 256)

-- 256 codes of a map, and places for their colours
pub record Decodes (n k from places : ℕ) : Type 0 where
  pub inside : k + 256 ≤ 4 ^ n
  pub room : from + 256 ≤ places
  pub few : places ≤ 1024

-- a map that is at least as large as a tile, and a biased row and column about it that are multiples of a tile's side
pub record Aligned (n row column : ℕ) : Type 0 where
  pub large : 4 ≤ n
  pub rows : row % 16 ≡ 0
  pub columns : column % 16 ≡ 0
  pub row_lt : row < 2 ^ 21
  pub column_lt : column < 2 ^ 21

-- what is known over a tile serves to decode it, in a map of size n: it is the colour, or the map is at least as large as a tile
abbrev pub Serves : ℕ → Seen → Type 0
Serves n (One c) = Unit {0}
Serves n (Mixed h) = 4 ≤ n

-- a tile anywhere about a map, at a biased row and column
pub record About (n : ℕ) (l : List ℕ) (known : Seen) (row column : ℕ) (steps : List ℕ) : Type 0 where
  pub holds : Holds (cell_about n l) row column 4 known
  pub large : Serves n known
  pub row_lt : row < 2 ^ 20
  pub column_lt : column < 2 ^ 20
  pub stepped : Steps (row % 16) (column % 16) steps
