-- A block's part is its quarters' parts joined.
use Rattle.std.specs.Prelude.{◌≡◌, refl, Bool, true, false, ℕ, suc, ◌+◌, ◌*◌, ◌^◌, ◌≤◌, ◌<◌, length}
use Rattle.std.proofs.Common.{sym, ap, ◌∙◌, arith}
use Rattle.std.proofs.lemmas.Bool.{false≢true}
use Rattle.tiling.specs.Leaf.{colours}
use Rattle.shortest.specs.Shortest.{uniform, shortest}
use Rattle.shortest.specs.Part.{part, merge, joined}
use Rattle.shortest.specs.Laws.Flat.{Flat, flat_first, quarters}
use Rattle.shortest.specs.Laws.Paint.{shortest_four, length_four}
use Rattle.shortest.specs.Laws.Part.{merge-same, same-merge, joined_one, joined_many, part_one, part_many, one_uniform, part-size}
use Rattle.shortest.proofs.Flat.{uniform_flat, flat_uniform}

module _ (f : ℕ → ℕ) (coloured : (j : ℕ) → f j < colours) where
  -- the quarters merge exactly if the block is of one colour
  merged_flat : (L k : ℕ) → merge (part f L k) (part f L (k + 4 ^ L)) (part f L (k + 2 * 4 ^ L)) (part f L (k + 3 * 4 ^ L)) ≡ true
      → Flat f (part f L k) (suc L) k
  merged_flat L k h =
      let s = merge-same _ _ _ _ h in
      quarters f (part f L k) L k (flat k s.0 refl) (flat (k + 4 ^ L) (omega arith) s.1) (flat (k + 2 * 4 ^ L) (omega arith) s.2) (flat (k + 3 * 4 ^ L) (omega arith) s.3)
    where
      flat : (i : ℕ) → part f L i < colours → part f L i ≡ part f L k → Flat f (part f L k) L i
      flat i l e j lo hi =
          let u = one_uniform f coloured L i l in
          uniform_flat f L i u j lo hi ∙ sym (part_one f L i u) ∙ e

  flat_merged : (L k : ℕ) → uniform f (suc L) k ≡ true
      → merge (part f L k) (part f L (k + 4 ^ L)) (part f L (k + 2 * 4 ^ L)) (part f L (k + 3 * 4 ^ L)) ≡ true
  flat_merged L k u =
      let e₀ = quarter k (omega arith) (omega arith) in
      same-merge _ _ _ _ (omega (arith, coloured k)) (quarter (k + 4 ^ L) (omega arith) (omega arith) ∙ sym e₀)
      (quarter (k + 2 * 4 ^ L) (omega arith) (omega arith) ∙ sym e₀) (quarter (k + 3 * 4 ^ L) (omega arith) (omega arith) ∙ sym e₀)
    where
      -- a quarter has the block's colour
      quarter : (i : ℕ) → k ≤ i → i + 4 ^ L ≤ k + 4 ^ suc L → part f L i ≡ f k
      quarter i lo hi =
          let flat : Flat f (f k) L i = λ j a b. uniform_flat f (suc L) k u j (omega arith) (omega arith) in
          part_one f L i (flat_uniform f (f k) L i flat) ∙ flat_first f (f k) L i flat

  pub part-joined : (L k : ℕ) → part f (suc L) k ≡ joined (part f L k) (part f L (k + 4 ^ L)) (part f L (k + 2 * 4 ^ L)) (part f L (k + 3 * 4 ^ L))
  part-joined L k = go (merge p₀ p₁ p₂ p₃) refl
    where
      p₀ : ℕ
      p₀ = part f L k

      p₁ : ℕ
      p₁ = part f L (k + 4 ^ L)

      p₂ : ℕ
      p₂ = part f L (k + 2 * 4 ^ L)

      p₃ : ℕ
      p₃ = part f L (k + 3 * 4 ^ L)

      go : (b : Bool) → merge p₀ p₁ p₂ p₃ ≡ b → part f (suc L) k ≡ joined p₀ p₁ p₂ p₃
      go true e =
          let flat = merged_flat L k e in
          part_one f (suc L) k (flat_uniform f p₀ (suc L) k flat) ∙ flat_first f p₀ (suc L) k flat ∙ sym (joined_one p₀ p₁ p₂ p₃ e)
      go false e = go_many (uniform f (suc L) k) refl
        where
          go_many : (b : Bool) → uniform f (suc L) k ≡ b → part f (suc L) k ≡ joined p₀ p₁ p₂ p₃
          go_many true u = absurd (false≢true (sym e ∙ flat_merged L k u))
          go_many false u =
              omega (arith, part_many f (suc L) k u, joined_many p₀ p₁ p₂ p₃ e, ap length (shortest_four f L k u), length_four (shortest f L k) (shortest f L (k + 4 ^ L)) (shortest f L (k + 2 * 4 ^ L)) (shortest f L (k + 3 * 4 ^ L)), part-size f coloured L k, part-size f coloured L (k + 4 ^ L), part-size f coloured L (k + 2 * 4 ^ L), part-size f coloured L (k + 3 * 4 ^ L))

-- a single cell's part is its colour
pub part_cell : (f : ℕ → ℕ) (k : ℕ) → part f 0 k ≡ f k
part_cell f k = part_one f 0 k (flat_uniform f (f k) 0 k (λ j lo hi. let e : j ≡ k = omega arith in ap f e))
