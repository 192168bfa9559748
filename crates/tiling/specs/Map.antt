-- A map of size n is a square of 2 ^ n by 2 ^ n cells. What colour a list gives a cell, and what a cell beyond the square counts as.
use Rattle.std.specs.Prelude.{Bool, false, ◌&&◌, cond, List, [], ◌∷◌, ℕ, ◌^◌, ltb, ℤ, pos, negsuc, nat_abs}
use Rattle.morton.specs.Code.{code}
use Rattle.tiling.specs.Leaf.{colour_of, end_of, white}

-- sizes are 0 to 12
abbrev pub limit : ℕ
limit = 12

-- the colour that a list shows at the code k: that of the first leaf that ends past it
unfoldable pub colour_at : List ℕ → ℕ → ℕ
colour_at [] k = white
colour_at (w ∷ ws) k = cond (ltb k (end_of w)) (colour_of w) (colour_at ws k)

-- a row or a column lies within a square of size n
abbrev pub within : ℕ → ℤ → Bool
within n (pos v) = ltb v (2 ^ n)
within n (negsuc v) = false

-- so does a cell
abbrev pub inside : ℕ → ℤ → ℤ → Bool
inside n row column = within n row && within n column

-- a cell beyond a map's square counts as WHITE
abbrev pub beyond : ℕ
beyond = white

-- the colour of the map at a row and a column, which may be negative
unfoldable pub colour_in : ℕ → List ℕ → ℤ → ℤ → ℕ
colour_in n l row column = cond (inside n row column) (colour_at l (code (nat_abs row) (nat_abs column))) beyond
