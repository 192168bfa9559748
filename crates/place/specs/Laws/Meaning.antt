-- What the definitions that compute say in exact numbers: `in1024ths x` is z exactly if x is z 1024ths, `exact z c` is q exactly if
-- q * c is z.
use Rattle.std.specs.Prelude.{◌≡◌, ℕ, zero, suc, ◌*◌, ◌/◌, ◌%◌, ◌<◌, Bool, true, false, cond, ◌&&◌, ℤ, pos, negsuc, ◌*ℤ◌, neg_ℤ, ◌==◌, int_div, nat_le, unsigned_abs, refl, Float, Some, None}
use Rattle.std.proofs.Common.{sym, ap, ◌∙◌, subst, mul-div_cancel, zero-mul, arith, eqb-true, leb-true, eq-eqb, le-leb}
use Rattle.std.proofs.Math.Nat.{mul-mod_left, zero-div}
use Rattle.std.specs.Float.{nan, inf, fin}
use Rattle.std.specs.Float.Ieee.{up, down}
use Rattle.std.specs.Float.Ieee.Fits.{down_pos}
use Rattle.place.specs.Placing.{farthest, signed, in1024ths, exact}
use Rattle.place.specs.Allowed.{Is}
use Rattle.place.specs.Laws.Scaling.{no_rest}

pub given : (b : Bool) (y z : ℤ) → cond b (Some y) None ≡ Some z → (b ≡ true) × (y ≡ z)
given true y z e = (refl, cc e)
given false y z e = let h : ◌≡◌ {A = ℕ} 0 1 = cc e in absurd (omega arith)

both : (p q : Bool) → (p && q) ≡ true → (p ≡ true) × (q ≡ true)
both true true e = (refl, refl)
both true false e = (refl, e)
both false q e = let h : ◌≡◌ {A = ℕ} 0 1 = cc e in absurd (omega arith)

pub in1024ths_is : (x : Float) (z : ℤ) → in1024ths x ≡ Some z → Is x z
unfolding in1024ths
in1024ths_is nan z e = let h : ◌≡◌ {A = ℕ} 0 1 = cc e in absurd (omega arith)
in1024ths_is (inf s) z e = let h : ◌≡◌ {A = ℕ} 0 1 = cc e in absurd (omega arith)
in1024ths_is (fin s m e) z h =
    let g = given (m * up e * 1024 % down e == 0 && nat_le (m * up e) (farthest * down e)) (signed s (m * up e * 1024 / down e)) z h in
    let k = both (m * up e * 1024 % down e == 0) (nat_le (m * up e) (farthest * down e)) g.0 in
    (m * up e * 1024 / down e, sym g.1, sym (no_rest (m * up e * 1024) (down e) (eqb-true _ _ k.0)), leb-true _ _ k.1)

pub is_in1024ths : (x : Float) (z : ℤ) → Is x z → in1024ths x ≡ Some z
unfolding in1024ths
is_in1024ths nan z i = absurd i
is_in1024ths (inf s) z i = absurd i
is_in1024ths (fin s m e) z i =
    let r : m * up e * 1024 % down e ≡ 0 = ap (λ (a : ℕ). a % down e) i.2 ∙ mul-mod_left i.0 (down e) in
    let q : m * up e * 1024 / down e ≡ i.0 = ap (λ (a : ℕ). a / down e) i.2 ∙ mul-div_cancel i.0 (down_pos e) in
    rw (eq-eqb _ _ r, le-leb _ _ i.3, q, i.1)

-- ---- exact division
back_up : (z : ℤ) (c : ℕ) → unsigned_abs z % c ≡ 0 → int_div z (pos c) *ℤ pos c ≡ z
back_up (pos a) c e = ap pos (no_rest a c e)
back_up (negsuc a) c e = go (suc a / c) (no_rest (suc a) c e)
  where
    go : (r : ℕ) → r * c ≡ suc a → neg_ℤ (pos r) *ℤ pos c ≡ negsuc a
    go zero h = let k : 0 * c ≡ 0 = zero-mul c in absurd (omega arith)
    go (suc r) h = ap (λ (x : ℕ). neg_ℤ (pos x)) h

quot_neg : (n c : ℕ) → int_div (neg_ℤ (pos n)) (pos c) ≡ neg_ℤ (pos (n / c))
quot_neg zero c = go (0 / c) (zero-div c)
  where
    go : (r : ℕ) → r ≡ 0 → pos r ≡ neg_ℤ (pos r)
    go r e = rw e
quot_neg (suc n) c = refl

abs_neg : (n : ℕ) → unsigned_abs (neg_ℤ (pos n)) ≡ n
abs_neg zero = refl
abs_neg (suc n) = refl

of_product : (q : ℤ) (c : ℕ) → 0 < c → (unsigned_abs (q *ℤ pos c) % c ≡ 0) × (int_div (q *ℤ pos c) (pos c) ≡ q)
of_product (pos b) c h = (mul-mod_left b c, ap pos (mul-div_cancel b h))
of_product (negsuc b) c h =
    (ap (λ (n : ℕ). n % c) (abs_neg (suc b * c)) ∙ mul-mod_left (suc b) c, quot_neg (suc b * c) c ∙ ap (λ (n : ℕ). neg_ℤ (pos n)) (mul-div_cancel (suc b) h))

pub exact_is : (z q : ℤ) (c : ℕ) → exact z (pos c) ≡ Some q → q *ℤ pos c ≡ z
unfolding exact
exact_is z q c e =
    let g = given (unsigned_abs z % c == 0) (int_div z (pos c)) q e in
    ap (λ (k : ℤ). k *ℤ pos c) (sym g.1) ∙ back_up z c (eqb-true _ _ g.0)

pub is_exact : (z q : ℤ) (c : ℕ) → 0 < c → q *ℤ pos c ≡ z → exact z (pos c) ≡ Some q
unfolding exact
is_exact z q c h e = subst (λ (y : ℤ). exact y (pos c) ≡ Some q) e (let p = of_product q c h in rw (eq-eqb _ _ p.0, p.1))
