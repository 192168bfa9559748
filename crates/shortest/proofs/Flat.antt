-- `all` and `uniform` as tests of a fact, proved both ways.
use Rattle.std.specs.Prelude.{◌≡◌, true, ℕ, zero, suc, ◌+◌, ◌*◌, ◌^◌}
use Rattle.std.proofs.Common.{sym, ap, ◌∙◌, le_refl, arith, eqb-true, eq-eqb}
use Rattle.tiling.specs.Laws.Tests.{and_both, both_and}
use Rattle.shortest.specs.Shortest.{all, uniform}
use Rattle.shortest.specs.Laws.Flat.{Flat, quarters, flat_first}

pub all_flat : (f : ℕ → ℕ) (c L k : ℕ) → all f c L k ≡ true → Flat f c L k
unfolding all
all_flat f c zero k h = λ j lo hi. let e : j ≡ k = omega arith in ap f e ∙ eqb-true (f k) c h
all_flat f c (suc L) k h =
    let x = and_both _ _ h in
    let y = and_both _ _ x.0 in
    let z = and_both _ _ y.0 in
    quarters f c L k (all_flat f c L k z.0) (all_flat f c L (k + 4 ^ L) z.1) (all_flat f c L (k + 2 * 4 ^ L) y.1) (all_flat f c L (k + 3 * 4 ^ L) x.1)

pub flat_all : (f : ℕ → ℕ) (c L k : ℕ) → Flat f c L k → all f c L k ≡ true
unfolding all
flat_all f c zero k h = eq-eqb (f k) c (h k (le_refl k) (omega arith))
flat_all f c (suc L) k h =
    both_and _ _ (both_and _ _ (both_and _ _
    (flat_all f c L k (λ j lo hi. h j lo (omega arith)))
    (flat_all f c L (k + 4 ^ L) (λ j lo hi. h j (omega arith) (omega arith))))
    (flat_all f c L (k + 2 * 4 ^ L) (λ j lo hi. h j (omega arith) (omega arith))))
    (flat_all f c L (k + 3 * 4 ^ L) (λ j lo hi. h j (omega arith) (omega arith)))

pub uniform_flat : (f : ℕ → ℕ) (L k : ℕ) → uniform f L k ≡ true → Flat f (f k) L k
unfolding uniform
uniform_flat f L k h = all_flat f (f k) L k h

pub flat_uniform : (f : ℕ → ℕ) (c L k : ℕ) → Flat f c L k → uniform f L k ≡ true
unfolding uniform
flat_uniform f c L k h = flat_all f (f k) L k (λ j lo hi. h j lo hi ∙ sym (flat_first f c L k h))
