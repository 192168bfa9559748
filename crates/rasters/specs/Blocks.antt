-- What the functions ask and promise that fill a raster block by block.
use Rattle.std.specs.Prelude.{◌≡◌, List, ℕ, ◌+◌, ◌-◌, ◌*◌, ◌/◌, ◌%◌, ◌^◌, ◌<◌, ◌≤◌, get_or}
use Rattle.morton.specs.Code.{code}
use Rattle.morton.specs.Power.{highest}

-- a square of the level within a raster of so many cells
pub record Square (n cells y x level : ℕ) : Type 0 where
  pub size : n ≤ highest
  pub whole : cells ≡ 4 ^ n
  pub bottom : y + 2 ^ level ≤ 2 ^ n
  pub right : x + 2 ^ level ≤ 2 ^ n

-- so many rows, so wide, of the square at (y, x) have the colours of the picture g; every other cell is as it was
pub record Rows (n : ℕ) (g : ℕ → ℕ → ℕ) (y x rows wide : ℕ) (before after : List ℕ) : Type 0 where
  pub inside : (r c : ℕ) → y ≤ r → r < y + rows → x ≤ c → c < x + wide → get_or after (r * 2 ^ n + c) 0 ≡ g r c
  pub outside : (r c : ℕ) → c < 2 ^ n → (y ≤ r → r < y + rows → x ≤ c → c < x + wide → ⊥) → get_or after (r * 2 ^ n + c) 0 ≡ get_or before (r * 2 ^ n + c) 0

-- one colour everywhere
abbrev pub alone : ℕ → ℕ → ℕ → ℕ
alone colour r c = colour

-- the code of each cell of a tile, row by row
abbrev pub order_of : ℕ → ℕ
order_of j = code (j / 16) (j % 16)

pub record Order (order : List ℕ) : Type 0 where
  pub each : (j : ℕ) → j < 256 → get_or order j 0 ≡ order_of j

-- sixteen cells of a tile, the first of which is `first` in its rows, from a place on
abbrev pub row_of_tile : List ℕ → List ℕ → ℕ → ℕ → ℕ → ℕ
row_of_tile tile order first place i = get_or tile (get_or order (first + (i - place)) 0) 0

-- a tile as a picture, its first cell at (y, x)
abbrev pub tile_cell : List ℕ → ℕ → ℕ → ℕ → ℕ → ℕ
tile_cell tile y x r c = get_or tile (code (r - y) (c - x)) 0
