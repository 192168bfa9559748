-- A tile: the colours of a square of 256 cells, in the order of their codes; and what a store of colours leaves.
use Rattle.std.specs.Prelude.{◌≡◌, List, ℕ, ◌+◌, ◌-◌, ◌<◌, ◌≤◌, get_or}
use Rattle.morton.specs.Code.{code, row_of, column_of}
use Rattle.tiling.specs.Map.{colour_at}

-- colours at the places from one on and before another: h says which; all other places are as they were
pub record Stored (before : List ℕ) (from to : ℕ) (h : ℕ → ℕ) (after : List ℕ) : Type 0 where
  pub ahead : (i : ℕ) → i < from → get_or after i 0 ≡ get_or before i 0
  pub among : (i : ℕ) → from ≤ i → i < to → get_or after i 0 ≡ h i
  pub behind : (i : ℕ) → to ≤ i → get_or after i 0 ≡ get_or before i 0

-- one colour at every place
abbrev pub plain : ℕ → ℕ → ℕ
plain colour i = colour

-- the colours that a list gives the codes from k on, the first at the place `from`
abbrev pub codes : List ℕ → ℕ → ℕ → ℕ → ℕ
codes l k from i = colour_at l (k + (i - from))

-- the colours that a picture g gives the cells of the square at (row, column), in the order of their codes, the first at the place `from`
abbrev pub tile_of : (ℕ → ℕ → ℕ) → ℕ → ℕ → ℕ → ℕ → ℕ
tile_of g row column from i = g (row + row_of (i - from)) (column + column_of (i - from))

-- so many places, from the first on, are a tile of the picture g
pub record Tile (g : ℕ → ℕ → ℕ) (row column many : ℕ) (tile : List ℕ) : Type 0 where
  pub each : (j : ℕ) → j < many → get_or tile j 0 ≡ g (row + row_of j) (column + column_of j)

-- where a cell of a tile stands that lies so many rows and columns within a larger one
abbrev pub step_to : ℕ → ℕ → ℕ → ℕ
step_to row column j = code (row + row_of j) (column + column_of j)

pub record Steps (row column : ℕ) (steps : List ℕ) : Type 0 where
  pub each : (j : ℕ) → j < 256 → get_or steps j 0 ≡ step_to row column j
