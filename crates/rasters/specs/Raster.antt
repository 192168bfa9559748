-- A raster is one byte a cell, row by row: the cell at row r and column c of a map of size n stands at place r × 2 ^ n + c.
use Rattle.std.specs.Prelude.{List, [], ◌∷◌, ℕ, zero, suc, ◌+◌, ◌*◌, ◌/◌, ◌%◌, ◌^◌, get_or}
use Rattle.morton.specs.Code.{code, row_of, column_of}
use Rattle.tiling.specs.Map.{colour_at}

-- the colour that a raster gives the cell whose code is k
unfoldable pub pixel : ℕ → List ℕ → ℕ → ℕ
pixel n cells k = get_or cells (row_of k * 2 ^ n + column_of k) 0

-- f at i, i + 1, .., of so many places
unfoldable pub places : (ℕ → ℕ) → ℕ → ℕ → List ℕ
places f zero i = []
places f (suc count) i = f i ∷ places f count (suc i)

-- the colour that a list gives the cell at a place
abbrev pub place_colour : ℕ → List ℕ → ℕ → ℕ
place_colour n l i = colour_at l (code (i / 2 ^ n) (i % 2 ^ n))

-- the raster of a list: all 4 ^ n cells
unfoldable pub raster_of : ℕ → List ℕ → List ℕ
raster_of n l = places (place_colour n l) (4 ^ n) 0
