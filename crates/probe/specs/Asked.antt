-- What the functions that look at a square ask.
use Rattle.std.specs.Prelude.{List, ℕ, ◌+◌, ◌^◌, ◌<◌, ◌≤◌}
use Rattle.morton.specs.Code.{code}
use Rattle.morton.specs.Power.{highest}
use Rattle.tiling.specs.Map.{colour_at}
use Rattle.probe.specs.Seen.{Covers}

-- a list as a picture of cells
abbrev pub cell_at : List ℕ → ℕ → ℕ → ℕ
cell_at l row column = colour_at l (code row column)

-- a cell of a map
pub record Cell (n row column : ℕ) : Type 0 where
  pub row_in : row < 2 ^ n
  pub column_in : column < 2 ^ n

-- a square within a map
pub record Within (n row column level : ℕ) : Type 0 where
  pub rows : row + 2 ^ level ≤ 2 ^ n
  pub columns : column + 2 ^ level ≤ 2 ^ n

-- a square within a map, the aligned square of whose upper left corner has one colour
pub record Across (n : ℕ) (l : List ℕ) (row column level colour : ℕ) : Type 0 where
  pub within : Within n row column level
  pub first : Covers (cell_at l) row column level colour

-- a square anywhere about a map, at a biased row and column
pub record About (row column level : ℕ) : Type 0 where
  pub level_in : level ≤ highest
  pub row_lt : row < 2 ^ 20
  pub column_lt : column < 2 ^ 20
