-- Rows and columns that may be negative, as the code holds and tests them.
use Rattle.std.specs.Prelude.{◌≡◌, refl, Bool, true, false, ℕ, zero, suc, ◌+◌, ◌*◌, ◌^◌, ◌<◌, ◌≤◌, T, ltb, ℤ, pos, negsuc, ◌+ℤ◌, ◌*ℤ◌, neg_ℤ, nat_abs}
use Rattle.std.proofs.Common.{ap, true≢false, arith, pow_mono, Fits, SFits, to_z, of_z, ltb-true, le-ltb}
use Rattle.std.proofs.lemmas.Bool.{false≢true}
use Rattle.std.proofs.Math.IntN.{sub_ℕ}
use Rattle.std.specs.Int.Signed.{mag, lt_z, non_neg}
use Rattle.std.specs.Int.{w64}
use Rattle.std.proofs.lemmas.Int.{to_z-of_z}
use Rattle.morton.specs.Code.{bits}
use Rattle.morton.specs.Power.{highest}
use Rattle.tiling.specs.Map.{within, inside}
use Rattle.tiling.specs.Laws.Tests.{and_both}

-- a signed number is held as bits; read back, they are the number
pub back : {z : ℤ} → SFits w64 z → to_z w64 (of_z w64 z) ≡ z
back {z} f = to_z-of_z w64 z f

-- the same from the range that a call's result or a struct's field has
pub held : (z : ℤ) → mag z < 2 ^ 63 → to_z w64 (of_z w64 z) ≡ z
held z h = to_z-of_z w64 z (record { sfits = h })

-- a negative row or column is in no square
pub negative : (n : ℕ) (z : ℤ) → lt_z z (pos 0) ≡ true → false ≡ within n z
negative n (pos v) h = absurd (omega (arith, ltb-true v 0 h))
negative n (negsuc v) h = refl

-- one that is not negative is its own size
pub natural : (n s : ℕ) (z : ℤ) → s ≡ 2 ^ n → lt_z z (pos 0) ≡ false → ltb (nat_abs z) s ≡ within n z
natural n s (pos v) e h = ap (ltb v) e
natural n s (negsuc v) e h = absurd (true≢false h)

-- and can be cast to an unsigned number
pub cast_natural : (z : ℤ) → SFits w64 z → lt_z z (pos 0) ≡ false → T (non_neg z) × Fits w64 (nat_abs z)
cast_natural (pos v) f h = (tt, record { fits = omega (arith, f.sfits) })
cast_natural (negsuc v) f h = absurd (true≢false h)

-- a row or a column within a square is below its side, and can be cast too
pub within-lt : (n : ℕ) (z : ℤ) → within n z ≡ true → nat_abs z < 2 ^ n
within-lt n (pos v) h = ltb-true v (2 ^ n) h
within-lt n (negsuc v) h = absurd (false≢true h)

pub within-bits : (n : ℕ) (z : ℤ) → n ≤ highest → within n z ≡ true → nat_abs z < 2 ^ bits
within-bits n z l h = let q : 2 ^ n ≤ 2 ^ 15 = pow_mono l in omega (arith, within-lt n z h)

pub within_cast : (n : ℕ) (z : ℤ) → SFits w64 z → within n z ≡ true → T (non_neg z) × Fits w64 (nat_abs z)
within_cast n (pos v) f h = cast_natural (pos v) f (le-ltb v 0 (omega arith))
within_cast n (negsuc v) f h = absurd (false≢true h)

pub inside_both : (n : ℕ) (row column : ℤ) → inside n row column ≡ true → (within n row ≡ true) × (within n column ≡ true)
inside_both n row column h = and_both (within n row) (within n column) h

-- ---- sums and products stay small

pub small_fits : (z : ℤ) → nat_abs z < 2 ^ 62 → SFits w64 z
small_fits (pos v) h = record { sfits = omega arith }
small_fits (negsuc v) h = record { sfits = omega arith }

abs-sub : (a b : ℕ) → nat_abs (sub_ℕ a b) ≤ a + b
abs-sub a b = go (ltb a b) refl
  where
    go : (t : Bool) → ltb a b ≡ t → nat_abs (sub_ℕ a b) ≤ a + b
    go true e = rw e (omega (arith, ltb-true a b e))
    go false e = rw e (omega arith)

pub abs_sum : (y z : ℤ) → nat_abs (y +ℤ z) ≤ nat_abs y + nat_abs z
abs_sum (pos a) (pos b) = omega arith
abs_sum (pos a) (negsuc b) = abs-sub a (suc b)
abs_sum (negsuc a) (pos b) = omega (arith, abs-sub b (suc a))
abs_sum (negsuc a) (negsuc b) = omega arith

pub abs_neg : (z : ℤ) → nat_abs (neg_ℤ z) ≡ nat_abs z
abs_neg (pos zero) = refl
abs_neg (pos (suc v)) = refl
abs_neg (negsuc v) = refl

-- at most once a number, either way
pub abs_once : (z : ℤ) (s : ℕ) → nat_abs z ≤ 1 → nat_abs (z *ℤ pos s) ≤ s
abs_once (pos zero) s h = omega arith
abs_once (pos (suc v)) s h = let e : v ≡ 0 = omega arith in rw e (omega arith)
abs_once (negsuc v) s h = let e : v ≡ 0 = omega arith in rw (e, abs_neg (pos (1 * s))) (omega arith)
