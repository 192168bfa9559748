-- Powers of 2 and of 4 made by a shift, and numbers that are multiples of one.
use Rattle.std.specs.Prelude.{◌≡◌, refl, ℕ, zero, suc, ◌*◌, ◌%◌, ◌^◌, ◌<◌, ◌≤◌}
use Rattle.std.proofs.Common.{ap, ◌∙◌, mod-eq_of_lt, one-mul, arith}
use Rattle.std.proofs.Math.Nat.{pow-le-pow_right, one-le-pow}
use Rattle.std.proofs.Math.Decide.{dec_le}
use Rattle.std.proofs.Math.Pow.{pow-lt}
use Rattle.morton.specs.Power.{Power, highest}

pub power : (b level r : ℕ) → 0 < b → level ≤ highest → r ≡ b ^ level → Power b level r
power b level r p h e = record { is = e; low = rw e (one-le-pow level b p); high = rw e (pow-le-pow_right p h) }

-- 1 shifted to the left, as the machine does it
pub shifted : (k : ℕ) → k < 64 → 1 * 2 ^ k % 2 ^ 64 ≡ 2 ^ k
shifted k h =
    let l : 2 ^ k < 2 ^ 64 = pow-lt h in
    let e : 1 * 2 ^ k < 2 ^ 64 = omega arith in
    mod-eq_of_lt e ∙ one-mul (2 ^ k)

pub two_four : (L : ℕ) → 2 ^ (2 * L) ≡ 4 ^ L
two_four zero = refl
two_four (suc L) = let e : 2 * suc L ≡ suc (suc (2 * L)) = omega arith in ap (λ (n : ℕ). 2 ^ n) e ∙ omega (arith, two_four L)

-- the larger power has the larger exponent
pub exponent_le : (a b : ℕ) → 2 ^ a ≤ 2 ^ b → a ≤ b
exponent_le a b h = elim (dec_le a b) [ yes p ↦ p | no p ↦ let q = pow-lt {i = b} {j = a} (omega arith) in absurd (omega arith) ]

pub four_le : (a b : ℕ) → 4 ^ a ≤ 4 ^ b → a ≤ b
four_le a b h = omega (arith, exponent_le (2 * a) (2 * b) (omega (arith, two_four a, two_four b)))
