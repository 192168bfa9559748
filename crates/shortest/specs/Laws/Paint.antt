-- A list that paints a block: one leaf of the block's one colour, or the lists of its four quarters one after another.
use Rattle.std.specs.Prelude.{◌≡◌, refl, true, false, List, [], ◌∷◌, ◌++◌, ℕ, zero, suc, ◌+◌, ◌*◌, ◌^◌, ◌≤◌, ◌<◌, length}
use Rattle.std.proofs.Common.{arith, length-append}
use Rattle.tiling.specs.Leaf.{leaf, colours}
use Rattle.shortest.specs.Shortest.{uniform, shortest}
use Rattle.shortest.specs.Laws.Flat.{Flat}

pub data Paint (f : ℕ → ℕ) : ℕ → ℕ → List ℕ → Type 0 where
  one : {L k : ℕ} → f k < colours → Flat f (f k) L k → Paint f L k (leaf k L (f k) ∷ [])
  four : {L k : ℕ} {a b c d : List ℕ} → Paint f L k a → Paint f L (k + 4 ^ L) b → Paint f L (k + 2 * 4 ^ L) c → Paint f L (k + 3 * 4 ^ L) d → Paint f (suc L) k (a ++ b ++ c ++ d)

-- the two forms of the shortest list
pub shortest_one : (f : ℕ → ℕ) (L k : ℕ) → uniform f L k ≡ true → shortest f L k ≡ leaf k L (f k) ∷ []
unfolding shortest
shortest_one f zero k h = refl
shortest_one f (suc L) k h = rw (h, shortest)

pub shortest_four : (f : ℕ → ℕ) (L k : ℕ) → uniform f (suc L) k ≡ false → shortest f (suc L) k ≡ shortest f L k ++ shortest f L (k + 4 ^ L) ++ shortest f L (k + 2 * 4 ^ L) ++ shortest f L (k + 3 * 4 ^ L)
unfolding shortest
shortest_four f L k h = rw (h, shortest)

-- every list that paints has an entry
pub paint_some : {f : ℕ → ℕ} {L k : ℕ} {l : List ℕ} → Paint f L k l → 0 < length l
paint_some (one s h) = omega arith
paint_some (four {a = a} {b = b} {c = c} {d = d} p q r s) = simp length-append (omega (arith, paint_some p))

pub paint_first : {f : ℕ → ℕ} {L k : ℕ} {l : List ℕ} → Paint f L k l → f k < colours
paint_first (one s h) = s
paint_first (four p q r s) = paint_first p

-- no list that paints a block is shorter than the shortest, and none other is as short
pub record Least (f : ℕ → ℕ) (L k : ℕ) (l : List ℕ) : Type 0 where
  pub least : length (shortest f L k) ≤ length l
  pub only : length l ≡ length (shortest f L k) → l ≡ shortest f L k

-- the lengths of the four quarters' lists, put together
pub length_four : (a b c d : List ℕ) → length (a ++ b ++ c ++ d) ≡ length a + length b + length c + length d
length_four a b c d = simp length-append
