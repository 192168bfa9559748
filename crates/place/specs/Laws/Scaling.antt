-- A ground number times 1024 is exact, and so is what comes of it as an integer.
use Rattle.std.specs.Prelude.{◌≡◌, ℕ, zero, suc, ◌+◌, ◌-◌, ◌*◌, ◌/◌, ◌%◌, ◌^◌, ◌<◌, ◌≤◌, min, Bool, true, false, cond, ◌&&◌, ◌||◌, T, ltb, leb, ◌⊎◌, ℤ, pos, negsuc, neg_ℤ, ◌==◌, ◌≢◌, nat_eq, nat_le, nat_lt, refl, Float, Some, None}
use Rattle.std.proofs.Common.{sym, ap, ◌∙◌, subst, inl, inr, mul-pos, le_trans, le_of_eq, le_of_lt, le_of_suc-le-suc, lt_of_lt_of_le, lt_of_le_of_lt, lt_of_not-le, lt_irrefl, zero-mul, mul-one, mul_assoc, mul_comm, mul_left_comm, mul_right_comm, mul-le-mul_right, le_of_mul-le-mul_right, div-add-mod', div-lt_iff_lt-mul, arith, true≢false, lit≤, lit<, leb→le, ltb→lt, lt→ltb, pow-add, pow_pos, leb-true, lt-ltb, le-ltb, le-leb, eq-eqb, ne_eqb}
use Rattle.std.proofs.Math.Nat.{eq_of_mul-eq-mul_right}
use Rattle.std.specs.Bool.{beq}
use Rattle.std.proofs.Math.Decide.{ℕ_discrete, dec_lt}
use Rattle.std.proofs.Math.Pow.{pow-lt}
use Rattle.std.specs.Float.{nan, inf, fin, Format, binary32, binary64}
use Rattle.std.specs.Float.Ieee.{prec, emax, low, up, down, fits, round, mul, le, lt, eq, to_signed, of_int}
use Rattle.std.specs.Float.Ieee.Fits.{down_pos, and_l, and_r}
use Rattle.std.specs.Float.Ieee.Exact.{HasValue, round_exact}
use Rattle.std.specs.Float.Ieee.Back.{round_whole}
use Rattle.std.specs.Float.Ieee.Nearest.{div_same}
use Rattle.std.specs.Float.Ieee.Digits.{back}
use Rattle.std.specs.Float.Ieee.Positive.{num, den}
use Rattle.std.proofs.lemmas.Bool.{lt-leb}
use Rattle.std.proofs.Math.Arith.{lt_of_le-ne}
use Rattle.place.specs.Placing.{signed, in1024ths}

-- ---- scaling: m * 2 ^ e * 1024 is q * 2 ^ j of the format's smallest values, with q = m
pow_le_back : (a l : ℕ) → 2 ^ a ≤ 2 ^ l → a ≤ l
pow_le_back a l h = le_of_suc-le-suc (lt_of_not-le (λ (g : suc l ≤ a). lt_irrefl (2 ^ l) (lt_of_lt_of_le (pow-lt g) h)))

-- where m * 2 ^ e stands among the smallest values
steps : (l : ℕ) (e : ℤ) → down e ≤ 2 ^ l → (j : ℕ) × ((m : ℕ) → m * up e * 2 ^ l ≡ m * 2 ^ j * down e)
steps l (pos k) h = (k + l, λ m. simp (pow-add, mul-one, mul_assoc))
steps l (negsuc k) h = (
  l - suc k,
  λ m.
      let e1 : 2 ^ l ≡ 2 ^ (l - suc k) * 2 ^ suc k = ap (λ (x : ℕ). 2 ^ x) (sym (back l (suc k) (pow_le_back (suc k) l h))) ∙ pow-add 2 (l - suc k) (suc k) in
      ap (λ (x : ℕ). x * 2 ^ l) (mul-one m) ∙ ap (λ (x : ℕ). m * x) e1 ∙ sym (mul_assoc m (2 ^ (l - suc k)) (2 ^ suc k)),
)

room : (f : Format) → low f + 34 < low f + suc (emax f)
room binary32 = lit< tt
room binary64 = lit< tt

-- from n steps' bound to the scaled number's
module _ (l n j u d : ℕ) (dp : 0 < d) (e : n * u * 2 ^ l ≡ n * 2 ^ j * d) (h : n * u ≤ 16777216 * d) where
  scaled_steps : n * u * 1024 * 2 ^ l ≡ n * 2 ^ (j + 10) * d
  scaled_steps = mul_right_comm (n * u) 1024 (2 ^ l) ∙ ap (λ (x : ℕ). x * 1024) e ∙ mul_right_comm (n * 2 ^ j) d 1024
      ∙ ap (λ (x : ℕ). x * d) (mul_assoc n (2 ^ j) 1024 ∙ ap (λ (x : ℕ). n * x) (sym (pow-add 2 j 10)))

  few : n * 2 ^ j ≤ 16777216 * 2 ^ l
  few = le_of_mul-le-mul_right (le_trans (le_of_eq (sym e)) (le_trans (mul-le-mul_right (2 ^ l) h) (le_of_eq (mul_right_comm 16777216 d (2 ^ l))))) dp

  scaled_few : n * 2 ^ (j + 10) ≤ 2 ^ (l + 34)
  scaled_few =
      let a : n * 2 ^ (j + 10) ≡ n * 2 ^ j * 1024 = ap (λ (x : ℕ). n * x) (pow-add 2 j 10) ∙ sym (mul_assoc n (2 ^ j) 1024) in
      let b : 2 ^ (l + 34) ≡ 2 ^ l * 17179869184 = pow-add 2 l 34 in
      let c : n * 2 ^ j ≤ 16777216 * 2 ^ l = few in
      omega arith

pub scale_exact : (f : Format) (s : Bool) (m : ℕ) (e : ℤ) → T (fits f (fin s m e)) → m * up e ≤ 16777216 * down e
    → HasValue (round f s (m * up e * 1024) (down e)) s (m * up e * 1024) (down e)
unfolding fits
scale_exact f s zero e t h =
    round_exact f s (0 * up e * 1024) (down e) 0 0 (down_pos e) (pow_pos (prec f)) (pow_pos (low f + suc (emax f)))
    (ap (λ (x : ℕ). x * 1024 * 2 ^ low f) (zero-mul (up e)) ∙ zero-mul (2 ^ low f) ∙ sym (zero-mul (down e)))
scale_exact f s (suc m) e t h =
    let n = suc m in
    let a = nat_eq (n % 2) 1 in
    let b = ltb n (2 ^ prec f) in
    let c = leb (down e) (2 ^ low f) in
    let abc : T (a && b && c) = and_l (a && b && c) (nat_lt (n * up e) (2 ^ suc (emax f) * down e)) t in
    let p = steps (low f) e (leb→le (down e) (2 ^ low f) (and_r (a && b) c abc)) in
    round_exact f s (n * up e * 1024) (down e) n (p.0 + 10) (down_pos e) (ltb→lt n (2 ^ prec f) (and_r a b (and_l (a && b) c abc)))
    (lt_of_le_of_lt (scaled_few (low f) n p.0 (up e) (down e) (down_pos e) (p.1 n) h) (pow-lt (room f)))
    (scaled_steps (low f) n p.0 (up e) (down e) (down_pos e) (p.1 n) h)

-- ---- the range
abbrev pub InRange : Float → Type 0
InRange nan = ⊥
InRange (inf s) = ⊥
InRange (fin s m e) = m * up e ≤ 16777216 * down e

abbrev pub sign : Float → Bool
sign nan = false
sign (inf s) = s
sign (fin s m e) = s

-- y is a / d in size with the sign s, and that is 2 ^ 34 at most
pub record Sized (y : Float) (s : Bool) (a d : ℕ) : Type 0 where
  pub value : HasValue y s a d
  pub below : 0 < d
  pub small : a ≤ 17179869184 * d

-- times 1024, as the code has it
pub scale : (x : Float) → T (fits binary64 x) → InRange x → Sized (mul binary64 x (fin false 1 (pos 10))) (sign x) (num x * 1024) (den x)
unfolding mul
scale nan t h = absurd h
scale (inf s) t h = absurd h
scale (fin true m e) t h = record {
  value = rw mul-one (scale_exact binary64 true m e t h);
  below = down_pos e;
  small = omega arith;
}
scale (fin false m e) t h = record {
  value = rw mul-one (scale_exact binary64 false m e t h);
  below = down_pos e;
  small = omega arith;
}

-- ---- what the cast asks: -2 ^ 63 ≤ y < 2 ^ 63
or_l : (a b : Bool) → T a → T (a || b)
or_l true b t = tt
or_l false b t = absurd t

pub under : (a b : ℕ) → a < b → (q : Bool) → T (nat_lt a b || q)
under a b h q = or_l (nat_lt a b) q (lt→ltb a b h)

-- in y's own numbers
own_small : (m u v a d : ℕ) → m * u * d ≡ a * v → 0 < d → a ≤ 17179869184 * d → m * u ≤ 17179869184 * v
own_small m u v a d e dp h =
    le_of_mul-le-mul_right (le_trans (le_of_eq e) (le_trans (mul-le-mul_right v h) (le_of_eq (mul_right_comm 17179869184 d v)))) dp

pub castable : (y : Float) (s : Bool) (a d : ℕ) → Sized y s a d → T (le (fin true 1 (pos 63)) y) × T (lt y (fin false 1 (pos 63)))
unfolding le lt
castable nan s a d z = absurd z.value
castable (inf t) s a d z = absurd z.value
castable (fin true m e) s a d z =
    let h : m * up e ≤ 17179869184 * down e = own_small m (up e) (down e) a d z.value.1 z.below z.small in
    let p : 0 < down e = down_pos e in
    (under (m * up e * 1) (9223372036854775808 * down e) (omega arith) _, lt→ltb 0 (m * up e * 1 + 9223372036854775808 * down e) (omega arith))
castable (fin false m e) s a d z =
    let h : m * up e ≤ 17179869184 * down e = own_small m (up e) (down e) a d z.value.1 z.below z.small in
    let p : 0 < down e = down_pos e in
    (under 0 (9223372036854775808 * down e + m * up e * 1) (omega arith) _, lt→ltb (m * up e * 1) (9223372036854775808 * down e) (omega arith))

-- ---- the cast: cut toward zero
pub small_div : (a d : ℕ) → 0 < d → a ≤ 17179869184 * d → a / d ≤ 17179869184
small_div a d p h = le_of_suc-le-suc ((div-lt_iff_lt-mul p).1 (omega arith))

uncapped : (n q : ℕ) → n ≡ q → q ≤ 17179869184 → (min n 9223372036854775808 ≡ q) × (min n 9223372036854775807 ≡ q)
uncapped n q e h = (omega arith, omega arith)

pub cut : (y : Float) (s : Bool) (a d : ℕ) → Sized y s a d → to_signed 63 y ≡ signed s (a / d)
unfolding to_signed
cut nan s a d z = absurd z.value
cut (inf t) s a d z = absurd z.value
cut (fin t m e) s a d z = ap (λ (b : Bool). to_signed 63 (fin b m e)) z.value.0 ∙ go s
  where
    same : (min (m * up e / down e) 9223372036854775808 ≡ a / d) × (min (m * up e / down e) 9223372036854775807 ≡ a / d)
    same = uncapped (m * up e / down e) (a / d) (div_same (m * up e) (down e) a d (down_pos e) z.below z.value.1) (small_div a d z.below z.small)

    go : (b : Bool) → to_signed 63 (fin b m e) ≡ signed b (a / d)
    go true = ap (λ (n : ℕ). neg_ℤ (pos n)) same.0
    go false = ap pos same.1

-- ---- and back: the float of the cut number equals y exactly where nothing was cut
-- z is n, and y is a / d: their cross products are equal exactly where n * d is a
module _ (z v y w n a d : ℕ) (vp : 0 < v) (wp : 0 < w) (dp : 0 < d) (ez : z * 1 ≡ n * v) (ey : y * d ≡ a * w) where
  left : z * w * d ≡ n * d * (w * v)
  left = ap (λ (x : ℕ). x * w * d) (sym (mul-one z) ∙ ez) ∙ simp (mul_assoc, mul_comm, mul_left_comm)

  right : y * v * d ≡ a * (w * v)
  right = mul_right_comm y v d ∙ ap (λ (x : ℕ). x * v) ey ∙ mul_assoc a w v

  cross : n * d ≡ a → z * w ≡ y * v
  cross e = eq_of_mul-eq-mul_right d dp (z * w) (y * v) (left ∙ ap (λ (x : ℕ). x * (w * v)) e ∙ sym right)

  uncross : z * w ≡ y * v → n * d ≡ a
  uncross e = eq_of_mul-eq-mul_right (w * v) (mul-pos wp vp) (n * d) a (sym left ∙ ap (λ (x : ℕ). x * d) e ∙ right)

-- an exact quotient, and no other, has no remainder
pub no_rest : (a d : ℕ) → a % d ≡ 0 → a / d * d ≡ a
no_rest a d e = let h : a / d * d + a % d ≡ a = div-add-mod' a d in omega arith

rest : (a d : ℕ) → a / d * d ≡ a → a % d ≡ 0
rest a d e = let h : a / d * d + a % d ≡ a = div-add-mod' a d in omega arith

tied : (A B r : ℕ) (q : Bool) → (r ≡ 0 → (A ≡ B) × (q ≡ true)) → (A ≡ B → r ≡ 0) → (A == B && q) ≡ (r == 0)
tied A B r q to from = go (ℕ_discrete r 0)
  where
    go : Dec (r ≡ 0) → (A == B && q) ≡ (r == 0)
    go (yes e) = ap (λ (b : Bool). b && q) (eq-eqb A B (to e).0) ∙ (to e).1 ∙ sym (eq-eqb r 0 e)
    go (no f) = ap (λ (b : Bool). b && q) (ne_eqb A B (λ (g : A ≡ B). f (from g))) ∙ sym (ne_eqb r 0 f)

-- the signs agree, or the number is zero
Signs : Bool → Bool → ℕ → Type 0
Signs t s n = (t ≡ s) ⊎ (n ≡ 0)

same_sign : (t s : Bool) (n A : ℕ) → Signs t s n → (n ≡ 0 → A ≡ 0) → (beq t s || A == 0) ≡ true
unfolding Signs
same_sign true true n A h k = refl
same_sign false false n A h k = refl
same_sign true false n A (inl e) k = absurd (true≢false e)
same_sign true false n A (inr e) k = eq-eqb A 0 (k e)
same_sign false true n A (inl e) k = absurd (true≢false (sym e))
same_sign false true n A (inr e) k = eq-eqb A 0 (k e)

equals : (z y : Float) (t s : Bool) (a d : ℕ) → Sized y s a d → HasValue z t (a / d) 1 → Signs t s (a / d) → eq z y ≡ (a % d == 0)
unfolding eq
equals nan y t s a d S v h = absurd v
equals (inf t') y t s a d S v h = absurd v
equals (fin t' m e) nan t s a d S v h = absurd S.value
equals (fin t' m e) (inf s') t s a d S v h = absurd S.value
equals (fin t' m e) (fin s' n g) t s a d S v h =
    tied (m * up e * down g) (n * up g * down e) (a % d) (beq t' s' || m * up e * down g == 0)
    (λ (r : a % d ≡ 0). (
      cross (m * up e) (down e) (n * up g) (down g) (a / d) a d (down_pos e) (down_pos g) S.below v.1 S.value.1 (no_rest a d r),
      same_sign t' s' (a / d) (m * up e * down g) (subst (λ (b : Bool). Signs b s' (a / d)) (sym v.0) (subst (λ (b : Bool). Signs t b (a / d)) (sym S.value.0) h))
          (λ (e0 : a / d ≡ 0).
          ap (λ (x : ℕ). x * down g) (sym (mul-one (m * up e)) ∙ v.1 ∙ ap (λ (x : ℕ). x * down e) e0 ∙ zero-mul (down e)) ∙ zero-mul (down g)),
    ))
    (λ (g' : m * up e * down g ≡ n * up g * down e).
    rest a d (uncross (m * up e) (down e) (n * up g) (down g) (a / d) a d (down_pos e) (down_pos g) S.below v.1 S.value.1 g'))

pub float_back : (y : Float) (s : Bool) (a d : ℕ) → Sized y s a d → eq (of_int binary64 (signed s (a / d))) y ≡ (a % d == 0)
unfolding of_int Signs
float_back y false a d S =
    equals (round binary64 false (a / d) 1) y false false a d S (round_whole binary64 false (a / d) (le_trans (small_div a d S.below S.small) (lit≤ tt))) (inl refl)
float_back y true a d S = go (a / d) refl
  where
    value : (b : Bool) (n : ℕ) → n ≡ a / d → HasValue (round binary64 b n 1) b (a / d) 1
    value b n e = subst (λ (x : ℕ). HasValue (round binary64 b n 1) b x 1) e
        (round_whole binary64 b n (le_trans (le_of_eq e) (le_trans (small_div a d S.below S.small) (lit≤ tt))))

    go : (n : ℕ) → n ≡ a / d → eq (of_int binary64 (neg_ℤ (pos n))) y ≡ (a % d == 0)
    go zero e = equals (round binary64 false 0 1) y false true a d S (value false 0 e) (inr (sym e))
    go (suc k) e = equals (round binary64 true (suc k) 1) y true true a d S (value true (suc k) e) (inl refl)

-- ---- the tests of the range, as the code makes them, and what the spec says
pub le_of : (a b : ℕ) (q : Bool) → (a ≡ b → q ≡ true) → ((a ≢ b) → q ≡ false) → (nat_lt a b || (q && true)) ≡ nat_le a b
le_of a b q y n = go (dec_lt a b) (ℕ_discrete a b)
  where
    go : Dec (a < b) → Dec (a ≡ b) → (nat_lt a b || (q && true)) ≡ nat_le a b
    go (yes h) e = rw (lt-ltb a b h) (sym (le-leb a b (le_of_lt h)))
    go (no h) (yes e) = rw (le-ltb a b (le_of_eq (sym e)), y e) (sym (le-leb a b (le_of_eq e)))
    go (no h) (no e) =
        let f : b ≤ a = le_of_suc-le-suc (lt_of_not-le h) in
        rw (le-ltb a b f, n e) (sym (lt-leb a b (lt_of_le-ne f (λ (g : b ≡ a). e (sym g)))))

-- -16,777,216 ≤ -a / d, and a / d ≤ 16,777,216
le_low : (a d : ℕ) → (nat_lt (a * 1) (16777216 * d) || (16777216 * d == a * 1 && true)) ≡ nat_le a (16777216 * d)
le_low a d = rw mul-one (le_of a (16777216 * d) (16777216 * d == a) (λ e. eq-eqb _ _ (sym e)) (λ f. ne_eqb _ _ (λ e. f (sym e))))

le_high : (a d : ℕ) → (nat_lt (a * 1) (16777216 * d) || (a * 1 == 16777216 * d && true)) ≡ nat_le a (16777216 * d)
le_high a d = rw mul-one (le_of a (16777216 * d) (a == 16777216 * d) (eq-eqb _ _) (ne_eqb _ _))

pub in_range : (x : Float) → le (fin true 1 (pos 24)) x ≡ true → le x (fin false 1 (pos 24)) ≡ true → InRange x
unfolding le
in_range nan l h = absurd (true≢false (sym l))
in_range (inf true) l h = absurd (true≢false (sym l))
in_range (inf false) l h = absurd (true≢false (sym h))
in_range (fin true m e) l h = leb-true _ _ (sym (le_low (m * up e) (down e)) ∙ l)
in_range (fin false m e) l h = leb-true _ _ (sym (le_high (m * up e) (down e)) ∙ h)

-- what the spec says of a number in range, and of one beyond it
unusable : (p : Bool) (z : ℤ) → cond (p && false) (Some z) None ≡ None
unusable true z = refl
unusable false z = refl

by_rest : (p : Bool) (z : ℤ) → cond (p && true) (Some z) None ≡ cond p (Some z) None
by_rest true z = refl
by_rest false z = refl

pub too_low : (x : Float) → le (fin true 1 (pos 24)) x ≡ false → in1024ths x ≡ None
unfolding le in1024ths
too_low nan l = refl
too_low (inf s) l = refl
too_low (fin true m e) l = rw (sym (le_low (m * up e) (down e)) ∙ l) (unusable (m * up e * 1024 % down e == 0) (neg_ℤ (pos (m * up e * 1024 / down e))))
too_low (fin false m e) l = absurd (subst T l (under 0 (16777216 * down e + m * up e * 1) (omega (arith, down_pos e)) _))

pub too_high : (x : Float) → le x (fin false 1 (pos 24)) ≡ false → in1024ths x ≡ None
unfolding le in1024ths
too_high nan l = refl
too_high (inf s) l = refl
too_high (fin false m e) l = rw (sym (le_high (m * up e) (down e)) ∙ l) (unusable (m * up e * 1024 % down e == 0) (pos (m * up e * 1024 / down e)))
too_high (fin true m e) l = absurd (subst T l (under 0 (m * up e * 1 + 16777216 * down e) (omega (arith, down_pos e)) _))

pub within : (x : Float) (b : Bool) → InRange x → (num x * 1024 % den x == 0) ≡ b → in1024ths x ≡ cond b (Some (signed (sign x) (num x * 1024 / den x))) None
unfolding in1024ths
within nan b h e = absurd h
within (inf s) b h e = absurd h
within (fin s m e) b h k = rw (le-leb _ _ h, k) (by_rest b (signed s (m * up e * 1024 / down e)))

-- ---- `scaled`: cut, turned back and compared
pub answer : (x : Float) → T (fits binary64 x) → le (fin true 1 (pos 24)) x ≡ true → le x (fin false 1 (pos 24)) ≡ true
    → (z : ℤ) (w : Float) (b : Bool) → z ≡ to_signed 63 (mul binary64 x (fin false 1 (pos 10))) → w ≡ of_int binary64 z → eq w (mul binary64 x (fin false 1 (pos 10))) ≡ b
    → in1024ths x ≡ cond b (Some z) None
answer x t l h z w b ez ew eb =
    let y = mul binary64 x (fin false 1 (pos 10)) in
    let r = in_range x l h in
    let S = scale x t r in
    let cz : z ≡ signed (sign x) (num x * 1024 / den x) = ez ∙ cut y (sign x) (num x * 1024) (den x) S in
    within x b r (sym (float_back y (sign x) (num x * 1024) (den x) S) ∙ ap (λ (u : Float). eq u y) (sym (ew ∙ ap (of_int binary64) cz)) ∙ eb)
    ∙ ap (λ (u : ℤ). cond b (Some u) None) (sym cz)
