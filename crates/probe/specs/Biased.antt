-- Rows and columns that may be negative, as numbers from 0 on: 2 ^ 18 is added to each.
use Rattle.std.specs.Prelude.{Bool, ◌&&◌, ◌||◌, cond, List, ℕ, suc, ◌+◌, ◌-◌, ◌^◌, leb, ltb, ℤ, pos, negsuc}
use Rattle.morton.specs.Code.{code}
use Rattle.tiling.specs.Map.{colour_at, beyond}

abbrev pub bias : ℕ
bias = 262144

-- how far from 0 a row or a column may lie that is turned
abbrev pub reach : ℕ
reach = 196608

abbrev pub biased : ℤ → ℕ
biased (pos v) = bias + v
biased (negsuc v) = bias - suc v

-- a biased row or column lies within a square of size n
abbrev pub within_b : ℕ → ℕ → Bool
within_b n v = leb bias v && ltb v (bias + 2 ^ n)

-- a square of the side s at a biased row and column lies wholly beyond a map whose rows and columns end at e
abbrev pub beyondb : ℕ → ℕ → ℕ → ℕ → Bool
beyondb row column s e = leb (row + s) bias || leb (column + s) bias || leb e row || leb e column

-- the colour of a map at a biased row and column: what `colour_in` is at the row and the column themselves
unfoldable pub cell_about : ℕ → List ℕ → ℕ → ℕ → ℕ
cell_about n l row column = cond (within_b n row && within_b n column) (colour_at l (code (row - bias) (column - bias))) beyond
