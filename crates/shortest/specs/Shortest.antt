-- A picture gives each code a colour. Its shortest list: a block of one colour is one leaf; any other block is its four quarters in
-- order, each taken in the same way.
use Rattle.std.specs.Prelude.{◌≡◌, Bool, true, false, ◌&&◌, List, [], ◌∷◌, ◌++◌, ℕ, zero, suc, ◌+◌, ◌*◌, ◌^◌, ◌<◌, eqb}
use Rattle.tiling.specs.Leaf.{leaf}
use Rattle.tiling.specs.Map.{colour_at}

-- every code of the block of level L at k has the colour c
unfoldable pub all : (ℕ → ℕ) → ℕ → ℕ → ℕ → Bool
all f c zero k = eqb (f k) c
all f c (suc L) k = all f c L k && all f c L (k + 4 ^ L) && all f c L (k + 2 * 4 ^ L) && all f c L (k + 3 * 4 ^ L)

-- the block is of one colour
unfoldable pub uniform : (ℕ → ℕ) → ℕ → ℕ → Bool
uniform f L k = all f (f k) L k

unfoldable pub shortest : (ℕ → ℕ) → ℕ → ℕ → List ℕ
shortest f zero k = leaf k 0 (f k) ∷ []
shortest f (suc L) k =
    elim (uniform f (suc L) k) [
      | true ↦ leaf k (suc L) (f k) ∷ []
      | false ↦ shortest f L k ++ shortest f L (k + 4 ^ L) ++ shortest f L (k + 2 * 4 ^ L) ++ shortest f L (k + 3 * 4 ^ L)
    ]

-- the list shows the picture over the square of size n
abbrev pub ShowsPicture : (ℕ → ℕ) → ℕ → List ℕ → Type 0
ShowsPicture f n l = (j : ℕ) → j < 4 ^ n → colour_at l j ≡ f j
