-- What the four quarters' writes come to: nothing if the block is of one colour, and else its shortest list.
use Rattle.std.specs.Prelude.{◌≡◌, Bool, true, false, List, [], ℕ, suc, ◌+◌, ◌*◌, ◌^◌, ◌≤◌, ◌<◌}
use Rattle.std.proofs.Math.Path.{refl}
use Rattle.std.proofs.Common.{sym, ap, ◌∙◌, arith}
use Rattle.std.proofs.lemmas.List.Edits.{sets}
use Rattle.tiling.specs.Leaf.{colours}
use Rattle.shortest.specs.Shortest.{uniform, shortest}
use Rattle.shortest.specs.Part.{part, size_of, joined}
use Rattle.shortest.specs.Written.{inner, settled, finished}
use Rattle.shortest.specs.Laws.Stores.{sets_four}
use Rattle.shortest.specs.Laws.Paint.{shortest_four}
use Rattle.shortest.specs.Laws.Part.{part_one, part_many, part-size, part_small}
use Rattle.shortest.specs.Laws.Flat.{Flat}
use Rattle.shortest.specs.Laws.Written.{finished_one, finished_many, inner_one, inner_many, four_inner, four_filled}
use Rattle.shortest.proofs.Flat.{uniform_flat, flat_uniform}
use Rattle.shortest.proofs.Parts.{part-joined}

-- a block that is known to be of one colour
pub flat_inner : (f : ℕ → ℕ) (c L k : ℕ) → Flat f c L k → (o : List ℕ) (at : ℕ) → o ≡ sets o at (inner f L k)
flat_inner f c L k h o at = rw (inner_one f L k (flat_uniform f c L k h))

pub cell_inner : (f : ℕ → ℕ) (k : ℕ) (o : List ℕ) (at : ℕ) → o ≡ sets o at (inner f 0 k)
cell_inner f k o at = flat_inner f (f k) 0 k (λ j lo hi. let e : j ≡ k = omega arith in ap f e) o at

module _ (f : ℕ → ℕ) (coloured : (j : ℕ) → f j < colours) where
  -- the quarters of a block of one colour write nothing
  four_none : (o : List ℕ) (a₀ a₁ a₂ a₃ L k : ℕ) → uniform f (suc L) k ≡ true → four_inner f o a₀ a₁ a₂ a₃ L k ≡ o
  four_none o a₀ a₁ a₂ a₃ L k u =
      rw (none k (omega arith) (omega arith), none (k + 4 ^ L) (omega arith) (omega arith), none (k + 2 * 4 ^ L) (omega arith) (omega arith), none (k + 3 * 4 ^ L) (omega arith) (omega arith))
    where
      none : (i : ℕ) → k ≤ i → i + 4 ^ L ≤ k + 4 ^ suc L → inner f L i ≡ []
      none i lo hi = inner_one f L i (flat_uniform f (f k) L i (λ j a b. uniform_flat f (suc L) k u j (omega arith) (omega arith)))

  -- the quarters' writes, finished, are the block's
  module _ (o : List ℕ) (at L k : ℕ) where
    abbrev s₀ : ℕ
    s₀ = size_of (part f L k)

    abbrev s₁ : ℕ
    s₁ = size_of (part f L (k + 4 ^ L))

    abbrev s₂ : ℕ
    s₂ = size_of (part f L (k + 2 * 4 ^ L))

    pub four_finished :
        finished (four_inner f o at (at + s₀) (at + s₀ + s₁) (at + s₀ + s₁ + s₂) L k) at (part f L k) (part f L (k + 4 ^ L)) (part f L (k + 2 * 4 ^ L)) (part f L (k + 3 * 4 ^ L)) k L
        ≡ sets o at (inner f (suc L) k)
    unfolding settled
    four_finished = go (uniform f (suc L) k) refl
      where
        j : part f (suc L) k ≡ joined (part f L k) (part f L (k + 4 ^ L)) (part f L (k + 2 * 4 ^ L)) (part f L (k + 3 * 4 ^ L))
        j = part-joined f coloured L k

        go : (b : Bool) → uniform f (suc L) k ≡ b
            → finished (four_inner f o at (at + s₀) (at + s₀ + s₁) (at + s₀ + s₁ + s₂) L k) at (part f L k) (part f L (k + 4 ^ L)) (part f L (k + 2 * 4 ^ L)) (part f L (k + 3 * 4 ^ L)) k L
            ≡ sets o at (inner f (suc L) k)
        go true u =
            finished_one _ at _ _ _ _ k L (omega (arith, j, part_one f (suc L) k u, coloured k))
            ∙ four_none o at (at + s₀) (at + s₀ + s₁) (at + s₀ + s₁ + s₂) L k u
            ∙ sym (ap (λ l. sets o at l) (inner_one f (suc L) k u))
        go false u =
            finished_many _ at _ _ _ _ k L (omega (arith, j, part_many f (suc L) k u))
            ∙ four_filled f coloured L k (k + 4 ^ L) (k + 2 * 4 ^ L) (k + 3 * 4 ^ L) at (at + s₀) (at + s₀ + s₁) (at + s₀ + s₁ + s₂) o
            (omega (arith, part_small f coloured L k)) (omega (arith, part_small f coloured L (k + 4 ^ L))) (omega (arith, part_small f coloured L (k + 2 * 4 ^ L)))
            ∙ sets_four (shortest f L k) (shortest f L (k + 4 ^ L)) (shortest f L (k + 2 * 4 ^ L)) (shortest f L (k + 3 * 4 ^ L)) o at _ _ _
            (ap (λ (n : ℕ). at + n) (part-size f coloured L k)) (ap (λ (n : ℕ). at + s₀ + n) (part-size f coloured L (k + 4 ^ L))) (ap (λ (n : ℕ). at + s₀ + s₁ + n) (part-size f coloured L (k + 2 * 4 ^ L)))
            ∙ ap (λ l. sets o at l) (sym (shortest_four f L k u) ∙ sym (inner_many f (suc L) k u))
