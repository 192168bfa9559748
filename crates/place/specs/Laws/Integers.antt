-- The code's signed numbers: a difference, a quotient, the test of an offset; and the ways through `offsets` and `between`.
use Rattle.std.specs.Prelude.{◌≡◌, ℕ, zero, suc, ◌-◌, ◌/◌, ◌%◌, ◌^◌, ◌≤◌, true, false, ℤ, pos, negsuc, ◌-ℤ◌, neg_ℤ, ◌<ℤ◌, FitsSigned, ◌≢◌, int_div, int_rem, unsigned_abs, refl, Some, None, ◌<◌, int_lt}
use Rattle.std.proofs.Common.{ap, subst, le_trans, div-le_self, arith, of_z, eq-eqb, ne_eqb, sym, ap₂, ◌∙◌, true≢false, ltb→lt, to_z}
use Rattle.std.proofs.Math.Nat.{mod-le}
use Rattle.std.specs.Int.Signed.{mag}
use Rattle.std.specs.Int.{w64}
use mir.ValLaws.{sfits_le}
use Rattle.refusal.specs.Rules as rule
use Rattle.refusal.specs.Answer.{gives, refuses}
use Rattle.place.specs.Placing.{exact, same, far, offsets, between, reach, above_zero}
use Rattle.place.specs.declared.Reading.{Reading}
use Rattle.std.proofs.Math.Dec.{leb-suc-suc}
use Rattle.tiling.specs.Laws.Signed.{back, abs_neg, abs_sum, small_fits}

-- ---- equal bits, equal numbers
pub same_bits : {a b : ℤ} → FitsSigned w64 a → FitsSigned w64 b → of_z w64 a ≡ of_z w64 b → a ≡ b
same_bits f g e = sym (back f) ∙ ap (to_z w64) e ∙ back g

pub same_yes : (a b : ℤ) → a ≡ b → same a b ≡ true
same_yes a b e = subst (λ (x : ℤ). same a x ≡ true) e (itself a)
  where
    itself : (a : ℤ) → same a a ≡ true
    itself (pos n) = eq-eqb n n refl
    itself (negsuc n) = eq-eqb n n refl

pub same_no : (a b : ℤ) → (of_z w64 a ≢ of_z w64 b) → same a b ≡ false
same_no (pos a) (pos b) f = ne_eqb a b f
same_no (pos a) (negsuc b) f = refl
same_no (negsuc a) (pos b) f = refl
same_no (negsuc a) (negsuc b) f = ne_eqb a b (λ (e : a ≡ b). f (ap (λ (x : ℕ). 2 ^ 64 - suc x) e))

-- ---- a difference of two readings
pub difference_fits : (m k : ℤ) → unsigned_abs m ≤ reach → unsigned_abs k ≤ reach → FitsSigned w64 (m -ℤ k)
difference_fits m k h g = small_fits (m -ℤ k) (omega (arith, abs_sum m (neg_ℤ k), abs_neg k))

pub difference : (m k : ℤ) → FitsSigned w64 m → FitsSigned w64 k → unsigned_abs m ≤ reach → unsigned_abs k ≤ reach
    → to_z w64 (of_z w64 (to_z w64 (of_z w64 m) -ℤ to_z w64 (of_z w64 k))) ≡ m -ℤ k
difference m k f g h l = ap₂ (λ (a b : ℤ). to_z w64 (of_z w64 (a -ℤ b))) (back f) (back g) ∙ back (difference_fits m k h l)

-- ---- an offset's test

module _ {z : ℤ} (f : FitsSigned w64 z) where
  pub far_low : int_lt (to_z w64 (of_z w64 z)) (negsuc 65535) ≡ true → true ≡ far z
  far_low e = go z (subst (λ (x : ℤ). int_lt x (negsuc 65535) ≡ true) (back f) e)
    where
      go : (z : ℤ) → int_lt z (negsuc 65535) ≡ true → true ≡ far z
      go (pos n) e = absurd (true≢false (sym e))
      go (negsuc n) e = sym (leb-suc-suc 65536 n ∙ e)

  pub far_high : int_lt (to_z w64 (of_z w64 z)) (negsuc 65535) ≡ false → int_lt (pos 65536) (to_z w64 (of_z w64 z)) ≡ far z
  far_high e = subst (λ (x : ℤ). int_lt (pos 65536) x ≡ far z) (sym (back f)) (go z (subst (λ (x : ℤ). int_lt x (negsuc 65535) ≡ false) (back f) e))
    where
      go : (z : ℤ) → int_lt z (negsuc 65535) ≡ false → int_lt (pos 65536) z ≡ far z
      go (pos n) e = refl
      go (negsuc n) e = sym (leb-suc-suc 65536 n ∙ e)

-- ---- division
pub positive_bits : (c : ℤ) → pos 0 <ℤ c → 0 < of_z w64 c
positive_bits (pos n) h = ltb→lt 0 n h.lt
positive_bits (negsuc n) h = absurd h.lt

mag_neg : (r a : ℕ) → r ≤ suc a → mag (neg_ℤ (pos r)) ≤ a
mag_neg zero a h = omega arith
mag_neg (suc r) a h = omega arith

mag_quot : (z c : ℤ) → pos 0 <ℤ c → mag (int_div z c) ≤ mag z
mag_quot (pos a) (pos b) h = div-le_self a b
mag_quot (negsuc a) (pos b) h = mag_neg (suc a / b) a (div-le_self (suc a) b)
mag_quot (pos a) (negsuc b) h = absurd h.lt
mag_quot (negsuc a) (negsuc b) h = absurd h.lt

pub quotient_fits : (z c : ℤ) → FitsSigned w64 z → pos 0 <ℤ c → FitsSigned w64 (int_div z c)
quotient_fits z c f h = sfits_le (mag_quot z c h) f

no_negative : (r : ℕ) → r ≤ 2 ^ 63 → of_z w64 (neg_ℤ (pos r)) ≡ 0 → r ≡ 0
no_negative zero h e = refl
no_negative (suc r) h e = omega arith

rest_zero : (z c : ℤ) → FitsSigned w64 z → of_z w64 (int_rem z c) ≡ 0 → unsigned_abs z % unsigned_abs c ≡ 0
rest_zero (pos a) c f e = e
rest_zero (negsuc a) c f e = no_negative (suc a % unsigned_abs c) (le_trans (mod-le (suc a) (unsigned_abs c)) f.sfits) e

zero_rest : (z c : ℤ) → unsigned_abs z % unsigned_abs c ≡ 0 → of_z w64 (int_rem z c) ≡ 0
zero_rest (pos a) c e = e
zero_rest (negsuc a) c e = ap (λ (r : ℕ). of_z w64 (neg_ℤ (pos r))) e

pub exact_yes : (z c : ℤ) → FitsSigned w64 z → of_z w64 (int_rem z c) ≡ 0 → exact z c ≡ Some (int_div z c)
unfolding exact
exact_yes z c f e = rw (eq-eqb _ _ (rest_zero z c f e))

pub exact_no : (z c : ℤ) → (of_z w64 (int_rem z c) ≢ 0) → exact z c ≡ None
unfolding exact
exact_no z c f = rw (ne_eqb _ _ (λ (e : unsigned_abs z % unsigned_abs c ≡ 0). f (zero_rest z c e)))

-- ---- the two offsets, each tested at both ends
pub first-far : (dy dx : ℤ) → far dy ≡ true → refuses rule.offset 0 ≡ offsets dy dx
unfolding offsets
first-far dy dx e = rw e

pub second-far : (dy dx : ℤ) → far dy ≡ false → far dx ≡ true → refuses rule.offset 1 ≡ offsets dy dx
unfolding offsets
second-far dy dx e h = rw (e, h)

pub both_near : (dy dx : ℤ) → far dy ≡ false → far dx ≡ false → gives (record { dy = dy; dx = dx }) ≡ offsets dy dx
unfolding offsets
both_near dy dx e h = rw (e, h)

-- ---- a cell side is above zero
module _ {z : ℤ} (f : FitsSigned w64 z) where
  pub above_yes : int_lt (pos 0) (to_z w64 (of_z w64 z)) ≡ true → Some (to_z w64 (of_z w64 z)) ≡ above_zero (Some z)
  above_yes e = ap Some (back f) ∙ rw (subst (λ (x : ℤ). int_lt (pos 0) x ≡ true) (back f) e)

  pub above_no : int_lt (pos 0) (to_z w64 (of_z w64 z)) ≡ false → None ≡ above_zero (Some z)
  above_no e = rw (subst (λ (x : ℤ). int_lt (pos 0) x ≡ false) (back f) e)

-- ---- the ways through `between`
module _ (a b : Reading) where
  pub cells_differ : same a.cell b.cell ≡ false → refuses rule.cell_sides 0 ≡ between a b
  unfolding between
  cells_differ e = rw e

  pub rows_split : same a.cell b.cell ≡ true → exact (a.north -ℤ b.north) a.cell ≡ None → refuses rule.part_of_a_cell 0 ≡ between a b
  unfolding between
  rows_split e h = rw (e, h)

  pub columns_split : same a.cell b.cell ≡ true → (dy : ℤ) → exact (a.north -ℤ b.north) a.cell ≡ Some dy → exact (b.east -ℤ a.east) a.cell ≡ None → refuses rule.part_of_a_cell 1 ≡ between a b
  unfolding between
  columns_split e dy h k = rw (e, h, k)

  pub shifted : same a.cell b.cell ≡ true → (dy dx : ℤ) → exact (a.north -ℤ b.north) a.cell ≡ Some dy → exact (b.east -ℤ a.east) a.cell ≡ Some dx → offsets dy dx ≡ between a b
  unfolding between
  shifted e dy dx h k = rw (e, h, k)
