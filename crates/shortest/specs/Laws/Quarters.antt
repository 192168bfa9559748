-- One step of the recursion that writes a block: where each quarter is written, and what the four come to.
use Rattle.std.specs.Prelude.{◌≡◌, List, ℕ, suc, ◌+◌, ◌*◌, ◌-◌, ◌^◌, ◌≤◌, ◌<◌, length}
use Rattle.std.proofs.Common.{ap, subst, arith}
use Rattle.std.proofs.lemmas.List.Edits.{sets}
use Rattle.tiling.specs.Leaf.{colours}
use Rattle.shortest.specs.Part.{part, size_of, joined}
use Rattle.shortest.specs.Written.{inner, finished, Finishes, Placed}
use Rattle.shortest.specs.Laws.Part.{part_small}

-- what writing one quarter, at the code k, leaves
pub record Wrote (f : ℕ → ℕ) (L k : ℕ) (o o' : List ℕ) (at p s : ℕ) : Type 0 where
  pub is : p ≡ part f L k
  pub wrote : o' ≡ sets o at (inner f L k)
  pub kept : length o' ≡ length o
  pub size : s ≡ size_of p

-- what is known once all four are written
pub record Ready (f : ℕ → ℕ) (o o₄ : List ℕ) (at L k r₀ r₁ r₂ r₃ : ℕ) : Type 0 where
  pub finishes : Finishes o₄ at r₀ r₁ r₂ r₃ k L
  pub part : joined r₀ r₁ r₂ r₃ ≡ part f (suc L) k
  pub written : finished o₄ at r₀ r₁ r₂ r₃ k L ≡ sets o at (inner f (suc L) k)
  pub kept : length o₄ ≡ length o

-- the sizes of the four, of a block that is no single cell
module _ (f : ℕ → ℕ) (coloured : (j : ℕ) → f j < colours) (level k : ℕ) (p : 0 < level) (r₀ r₁ r₂ r₃ : ℕ)
    (e₀ : r₀ ≡ part f (level - 1) k) (e₁ : r₁ ≡ part f (level - 1) (k + 4 ^ (level - 1)))
    (e₂ : r₂ ≡ part f (level - 1) (k + 2 * 4 ^ (level - 1))) (e₃ : r₃ ≡ part f (level - 1) (k + 3 * 4 ^ (level - 1))) where
  pub four_sizes : size_of r₀ + size_of r₁ + size_of r₂ + size_of r₃ ≤ 4 * 4 ^ (level - 1)
  four_sizes =
      let l : ℕ = level - 1 in
      omega (arith, ap size_of e₀, ap size_of e₁, ap size_of e₂, ap size_of e₃, part_small f coloured l k, part_small f coloured l (k + 4 ^ l), part_small f coloured l (k + 2 * 4 ^ l), part_small f coloured l (k + 3 * 4 ^ l))

-- a block that is no single cell, as one of a level above another
pub placed-suc : (f : ℕ → ℕ) (o : List ℕ) (at level k : ℕ) → 0 < level → Placed f o at level k → Placed f o at (suc (level - 1)) k
placed-suc f o at level k p h = let e : level ≡ suc (level - 1) = omega arith in subst (λ (n : ℕ). Placed f o at n k) e h
