-- Laws of the code: it splits into high and low bits, it is a number of b digits in base 4, it tells cells apart, and
-- more bits than are needed change nothing.
use Rattle.std.specs.Prelude.{◌≡◌, refl, ℕ, zero, suc, ◌+◌, ◌*◌, ◌/◌, ◌%◌, ◌^◌, ◌<◌, ◌≤◌}
use Rattle.std.proofs.Common.{sym, ap, ◌∙◌, div-one, add-zero, add-suc, zero-add, suc-add, add_comm, lt_of_lt_of_le, le-add_left, arith, pow_mono}
use Rattle.std.proofs.Math.Nat.{div-div-eq-div-mul, pow-succ'}
use Rattle.std.proofs.Math.Arith.{digits_div, digits_mod}
use Rattle.morton.specs.Code.{interleaved, code}

-- row 3, column 5 of an 8 by 8 map
pub code_example : code 3 5 ≡ 27
unfolding interleaved
code_example = refl

pub code_lt : (b r c : ℕ) → interleaved b r c < 4 ^ b
unfolding interleaved
code_lt zero r c = omega arith
code_lt (suc b) r c = omega (arith, code_lt b (r / 2) (c / 2))

-- halving L times more
pub half_pow : (r L : ℕ) → r / 2 / 2 ^ L ≡ r / 2 ^ suc L
half_pow r L = div-div-eq-div-mul r 2 (2 ^ L) ∙ ap (λ (m : ℕ). r / m) (sym (pow-succ' 2 L))

-- the high bits and the low bits: all that follows rests on this
pub code_split : (b L r c : ℕ) → interleaved (b + L) r c ≡ interleaved b (r / 2 ^ L) (c / 2 ^ L) * 4 ^ L + interleaved L r c
unfolding interleaved
code_split b zero r c = rw (add-zero, div-one, div-one) (omega arith)
code_split b (suc L) r c = rw (add-suc, ← half_pow, ← half_pow, pow-succ' 4 L) (omega (arith, code_split b L (r / 2) (c / 2)))

pub code_high : (b L r c : ℕ) → interleaved (b + L) r c / 4 ^ L ≡ interleaved b (r / 2 ^ L) (c / 2 ^ L)
code_high b L r c = rw code_split (digits_div (interleaved b (r / 2 ^ L) (c / 2 ^ L)) (code_lt L r c))

pub code_low : (b L r c : ℕ) → interleaved (b + L) r c % 4 ^ L ≡ interleaved L r c
code_low b L r c = rw code_split (digits_mod (interleaved b (r / 2 ^ L) (c / 2 ^ L)) (code_lt L r c))

-- two cells with one code are one cell
pub code_injective : (b r c r' c' : ℕ) → r < 2 ^ b → c < 2 ^ b → r' < 2 ^ b → c' < 2 ^ b
    → interleaved b r c ≡ interleaved b r' c' → (r ≡ r') × (c ≡ c')
unfolding interleaved
code_injective zero r c r' c' hr hc hr' hc' e = omega arith
code_injective (suc b) r c r' c' hr hc hr' hc' e =
    let h = code_injective b (r / 2) (c / 2) (r' / 2) (c' / 2) (omega arith) (omega arith) (omega arith) (omega arith) (omega arith) in
    omega arith

-- one bit more than are needed changes nothing, nor do k more
one_more : (b r c : ℕ) → r < 2 ^ b → c < 2 ^ b → interleaved (suc b) r c ≡ interleaved b r c
unfolding interleaved
one_more zero r c hr hc = omega arith
one_more (suc b) r c hr hc = omega (arith, one_more b (r / 2) (c / 2) (omega arith) (omega arith))

more : (k b r c : ℕ) → r < 2 ^ b → c < 2 ^ b → interleaved (k + b) r c ≡ interleaved b r c
more zero b r c hr hc = rw zero-add
more (suc k) b r c hr hc =
    rw suc-add
    (one_more (k + b) r c (lt_of_lt_of_le hr (pow_mono (le-add_left b k))) (lt_of_lt_of_le hc (pow_mono (le-add_left b k)))
    ∙ more k b r c hr hc)

-- so any two numbers of bits that are enough give one code
pub code_enough : (a b r c : ℕ) → r < 2 ^ a → c < 2 ^ a → r < 2 ^ b → c < 2 ^ b → interleaved a r c ≡ interleaved b r c
code_enough a b r c hr hc hr' hc' = sym (more b a r c hr hc) ∙ rw add_comm (more a b r c hr' hc')

-- a cell of a square of size n has a code of that square
pub code_inside : (n r c : ℕ) → n ≤ 16 → r < 2 ^ n → c < 2 ^ n → code r c < 4 ^ n
code_inside n r c h hr hc =
    let q : 2 ^ n ≤ 2 ^ 16 = pow_mono h in
    rw (code_enough 16 n r c (omega arith) (omega arith) hr hc) (code_lt n r c)
