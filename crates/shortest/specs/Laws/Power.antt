-- The powers of four, and codes that are multiples of one.
use Rattle.std.specs.Prelude.{◌≡◌, ℕ, zero, suc, ◌+◌, ◌*◌, ◌%◌, ◌^◌, ◌≤◌, ◌<◌}
use Rattle.std.proofs.Common.{sym, ap, ◌∙◌, subst, zero-lt-suc, mod-eq_of_lt, zero-add, arith}
use Rattle.std.proofs.Math.Nat.{one-le-pow, pow-succ', pow-le-pow_right, mod-add-mod, add-mul-mod_self_right}
use Rattle.std.proofs.Math.Decide.{dec_le}
use Rattle.std.proofs.Math.Arith.{mod-mul}

pub pow_pos : (L : ℕ) → 0 < 4 ^ L
pow_pos L = one-le-pow L 4 (zero-lt-suc 3)

pub pow_four : (L : ℕ) → 4 ^ suc L ≡ 4 * 4 ^ L
pow_four L = pow-succ' 4 L

pub pow-le : {i j : ℕ} → i ≤ j → 4 ^ i ≤ 4 ^ j
pow-le h = pow-le-pow_right (zero-lt-suc 3) h

-- a multiple of 4 ^ suc L is one of 4 ^ L
pub mod_down : (L e : ℕ) → e % 4 ^ suc L ≡ 0 → e % 4 ^ L ≡ 0
mod_down L e h = omega (arith, sym (ap (λ (m : ℕ). e % m) (pow_four L)) ∙ h, mod-mul e {m = 4} (zero-lt-suc 3) (pow_pos L))

-- and one of every smaller power
pub mod-le : (i j e : ℕ) → i ≤ j → e % 4 ^ j ≡ 0 → e % 4 ^ i ≡ 0
mod-le i zero e le h = let q : 0 ≡ i = omega arith in subst (λ (n : ℕ). e % 4 ^ n ≡ 0) q h
mod-le i (suc j) e le h = elim (dec_le i j) [ yes l ↦ mod-le i j e l (mod_down j e h) | no l ↦ let q : suc j ≡ i = omega arith in subst (λ (n : ℕ). e % 4 ^ n ≡ 0) q h ]

-- a quarter's code is a multiple of 4 ^ L
pub quarter_mod : (L e j : ℕ) → e % 4 ^ suc L ≡ 0 → (e + j * 4 ^ L) % 4 ^ L ≡ 0
quarter_mod L e j h = add-mul-mod_self_right e j (4 ^ L) ∙ mod_down L e h

-- a code inside a block, past its first, is no multiple of the block's power
pub inside-mod : (L e r : ℕ) → e % 4 ^ L ≡ 0 → 0 < r → r < 4 ^ L → (e + r) % 4 ^ L ≡ 0 → ⊥
inside-mod L e r h pos lt z =
    omega (arith, mod-add-mod e (4 ^ L) r ∙ z, ap (λ (x : ℕ). (x + r) % 4 ^ L) h, ap (λ (x : ℕ). x % 4 ^ L) (zero-add r), mod-eq_of_lt lt)
