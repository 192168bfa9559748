-- A block's part is its quarters' parts joined, and counts the leaves of its shortest list.
use Rattle.std.specs.Prelude.{◌≡◌, refl, Bool, true, false, ◌&&◌, ℕ, zero, suc, ◌+◌, ◌*◌, ◌-◌, ◌^◌, ◌≤◌, ◌<◌, eqb, length}
use Rattle.std.proofs.Common.{arith, lt-ltb, le-ltb, ltb-true, eqb-true, eq-eqb}
use Rattle.tiling.specs.Leaf.{colours}
use Rattle.tiling.specs.Laws.Tests.{and_both, both_and}
use Rattle.shortest.specs.Shortest.{uniform, shortest}
use Rattle.shortest.specs.Part.{part, is_one, size_of, merge, joined}
use Rattle.shortest.specs.Laws.Power.{pow_pos}
use Rattle.shortest.specs.Laws.Paint.{shortest_one, shortest_four, length_four}

-- ---- numbers that stand for parts

pub one_size : (p : ℕ) → p < colours → size_of p ≡ 1
unfolding size_of
one_size p h = rw (lt-ltb p colours h)

pub many_size : (p : ℕ) → colours ≤ p → size_of p ≡ p - colours
unfolding size_of
many_size p h = rw (le-ltb p colours h)

-- what the test of merging tells
pub merge-same : (p₀ p₁ p₂ p₃ : ℕ) → merge p₀ p₁ p₂ p₃ ≡ true → (p₀ < colours) × (p₁ ≡ p₀) × (p₂ ≡ p₀) × (p₃ ≡ p₀)
unfolding merge
merge-same p₀ p₁ p₂ p₃ h =
    let x = and_both (is_one p₀ && eqb p₁ p₀ && eqb p₂ p₀) (eqb p₃ p₀) h in
    let y = and_both (is_one p₀ && eqb p₁ p₀) (eqb p₂ p₀) x.0 in
    let z = and_both (is_one p₀) (eqb p₁ p₀) y.0 in
    (ltb-true _ _ z.0, eqb-true _ _ z.1, eqb-true _ _ y.1, eqb-true _ _ x.1)

pub same-merge : (p₀ p₁ p₂ p₃ : ℕ) → p₀ < colours → p₁ ≡ p₀ → p₂ ≡ p₀ → p₃ ≡ p₀ → merge p₀ p₁ p₂ p₃ ≡ true
unfolding merge
same-merge p₀ p₁ p₂ p₃ h e₁ e₂ e₃ =
    both_and (is_one p₀ && eqb p₁ p₀ && eqb p₂ p₀) (eqb p₃ p₀)
    (both_and (is_one p₀ && eqb p₁ p₀) (eqb p₂ p₀)
    (both_and (is_one p₀) (eqb p₁ p₀) (lt-ltb _ _ h) (eq-eqb _ _ e₁)) (eq-eqb _ _ e₂)) (eq-eqb _ _ e₃)

pub joined_one : (p₀ p₁ p₂ p₃ : ℕ) → merge p₀ p₁ p₂ p₃ ≡ true → joined p₀ p₁ p₂ p₃ ≡ p₀
unfolding joined
joined_one p₀ p₁ p₂ p₃ h = rw h

pub joined_many : (p₀ p₁ p₂ p₃ : ℕ) → merge p₀ p₁ p₂ p₃ ≡ false → joined p₀ p₁ p₂ p₃ ≡ colours + (size_of p₀ + size_of p₁ + size_of p₂ + size_of p₃)
unfolding joined
joined_many p₀ p₁ p₂ p₃ h = rw h

-- a join that is no colour counts its quarters' leaves; one that is a colour is that of each quarter
pub joined-sizes : (p₀ p₁ p₂ p₃ : ℕ) → colours ≤ joined p₀ p₁ p₂ p₃ → joined p₀ p₁ p₂ p₃ - colours ≡ size_of p₀ + size_of p₁ + size_of p₂ + size_of p₃
joined-sizes p₀ p₁ p₂ p₃ h = go (merge p₀ p₁ p₂ p₃) refl
  where
    go : (b : Bool) → merge p₀ p₁ p₂ p₃ ≡ b → joined p₀ p₁ p₂ p₃ - colours ≡ size_of p₀ + size_of p₁ + size_of p₂ + size_of p₃
    go true e = absurd (omega (arith, joined_one p₀ p₁ p₂ p₃ e, (merge-same p₀ p₁ p₂ p₃ e).0))
    go false e = omega (arith, joined_many p₀ p₁ p₂ p₃ e)

-- a quarter that is no colour keeps the join from being one
pub not_merged : (p₀ p₁ p₂ p₃ : ℕ) → (merge p₀ p₁ p₂ p₃ ≡ true → ⊥) → colours ≤ joined p₀ p₁ p₂ p₃
not_merged p₀ p₁ p₂ p₃ h = go (merge p₀ p₁ p₂ p₃) refl
  where
    go : (b : Bool) → merge p₀ p₁ p₂ p₃ ≡ b → colours ≤ joined p₀ p₁ p₂ p₃
    go true e = absurd (h e)
    go false e = omega (arith, joined_many p₀ p₁ p₂ p₃ e)

-- ---- the parts of a picture

pub part_one : (f : ℕ → ℕ) (L k : ℕ) → uniform f L k ≡ true → part f L k ≡ f k
unfolding part
part_one f L k h = rw h

pub part_many : (f : ℕ → ℕ) (L k : ℕ) → uniform f L k ≡ false → part f L k ≡ colours + length (shortest f L k)
unfolding part
part_many f L k h = rw h

-- a block has at most a leaf for each of its codes, and one at least
pub shortest-size : (f : ℕ → ℕ) (L k : ℕ) → (0 < length (shortest f L k)) × (length (shortest f L k) ≤ 4 ^ L)
unfolding shortest
shortest-size f zero k = omega arith
shortest-size f (suc L) k =
    go (uniform f (suc L) k) refl (shortest-size f L k) (shortest-size f L (k + 4 ^ L)) (shortest-size f L (k + 2 * 4 ^ L)) (shortest-size f L (k + 3 * 4 ^ L))
  where
    go : (b : Bool) → uniform f (suc L) k ≡ b
        → (0 < length (shortest f L k)) × (length (shortest f L k) ≤ 4 ^ L)
        → (0 < length (shortest f L (k + 4 ^ L))) × (length (shortest f L (k + 4 ^ L)) ≤ 4 ^ L)
        → (0 < length (shortest f L (k + 2 * 4 ^ L))) × (length (shortest f L (k + 2 * 4 ^ L)) ≤ 4 ^ L)
        → (0 < length (shortest f L (k + 3 * 4 ^ L))) × (length (shortest f L (k + 3 * 4 ^ L)) ≤ 4 ^ L)
        → (0 < length (shortest f (suc L) k)) × (length (shortest f (suc L) k) ≤ 4 ^ suc L)
    go true e h₀ h₁ h₂ h₃ = rw (shortest_one f (suc L) k e) (omega (arith, pow_pos (suc L)))
    go false e h₀ h₁ h₂ h₃ =
        rw (shortest_four f L k e) (omega (arith, length_four (shortest f L k) (shortest f L (k + 4 ^ L)) (shortest f L (k + 2 * 4 ^ L)) (shortest f L (k + 3 * 4 ^ L))))

module _ (f : ℕ → ℕ) (coloured : (j : ℕ) → f j < colours) where
  -- a part that is a colour is that of a block of that colour
  pub one_uniform : (L k : ℕ) → part f L k < colours → uniform f L k ≡ true
  one_uniform L k h = go (uniform f L k) refl
    where
      go : (b : Bool) → uniform f L k ≡ b → uniform f L k ≡ true
      go true e = e
      go false e = absurd (omega (arith, part_many f L k e))

  pub many_uniform : (L k : ℕ) → colours ≤ part f L k → uniform f L k ≡ false
  many_uniform L k h = go (uniform f L k) refl
    where
      go : (b : Bool) → uniform f L k ≡ b → uniform f L k ≡ false
      go true e = absurd (omega (arith, part_one f L k e, coloured k))
      go false e = e

  pub part-size : (L k : ℕ) → size_of (part f L k) ≡ length (shortest f L k)
  part-size L k = go (uniform f L k) refl
    where
      go : (b : Bool) → uniform f L k ≡ b → size_of (part f L k) ≡ length (shortest f L k)
      go true e = rw (part_one f L k e, shortest_one f L k e) (one_size (f k) (coloured k))
      go false e =
          let m : colours ≤ part f L k = omega (arith, part_many f L k e) in
          omega (arith, many_size (part f L k) m, part_many f L k e)

  pub part_small : (L k : ℕ) → (0 < size_of (part f L k)) × (size_of (part f L k) ≤ 4 ^ L)
  part_small L k = rw (part-size L k) (shortest-size f L k)
