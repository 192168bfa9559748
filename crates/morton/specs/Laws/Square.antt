-- Blocks are squares: which cells have their codes in one block.
use Rattle.std.specs.Prelude.{◌≡◌, ℕ, ◌+◌, ◌*◌, ◌-◌, ◌/◌, ◌%◌, ◌^◌, ◌<◌, ◌≤◌}
use Rattle.std.proofs.Common.{sym, ap, ap₂, ◌∙◌, sub-add_cancel, div-add-mod', mod-lt, arith, shr_lt}
use Rattle.std.proofs.Math.Arith.{digits_div}
use Rattle.morton.specs.Code.{interleaved}
use Rattle.morton.specs.Laws.Code.{code_high, code_injective}

-- the block of level L that holds a cell, with the bits that are left as a difference
pub block : (b L r c : ℕ) → L ≤ b → interleaved b r c / 4 ^ L ≡ interleaved (b - L) (r / 2 ^ L) (c / 2 ^ L)
block b L r c h = ap (λ (m : ℕ). interleaved m r c / 4 ^ L) (sym (sub-add_cancel h)) ∙ code_high (b - L) L r c

-- a stretch that ends before the next multiple of s stays at one quotient by s
pub stays : (r i w s : ℕ) → r % s + w ≤ s → i < w → (r + i) / s ≡ r / s
stays r i w s h l =
    let e : r + i ≡ r / s * s + (r % s + i) = omega (arith, div-add-mod' r s) in
    rw e (digits_div (r / s) {m = s} {r = r % s + i} (omega arith))

-- the numbers from e, a multiple of s, up to e + s are those whose quotient by s is that of e
pub within : (k e s : ℕ) → e % s ≡ 0 → e ≤ k → k < e + s → k / s ≡ e / s
within k e s a l u =
    let h : k ≡ e / s * s + (k - e) = omega (arith, div-add-mod' e s) in
    ap (λ (x : ℕ). x / s) h ∙ digits_div (e / s) {m = s} {r = k - e} (omega arith)

pub quotient : (k e s : ℕ) → 0 < s → e % s ≡ 0 → k / s ≡ e / s → (e ≤ k) × (k < e + s)
quotient k e s p a h = omega (arith, div-add-mod' e s, div-add-mod' k s, mod-lt k p, ap (λ (q : ℕ). q * s) h)

-- cells of one aligned square have their codes in one block
pub square_block : (b L r c r' c' : ℕ) → L ≤ b → r' / 2 ^ L ≡ r / 2 ^ L → c' / 2 ^ L ≡ c / 2 ^ L
    → interleaved b r' c' / 4 ^ L ≡ interleaved b r c / 4 ^ L
square_block b L r c r' c' h hr hc = block b L r' c' h ∙ ap₂ (interleaved (b - L)) hr hc ∙ sym (block b L r c h)

-- and cells whose codes are in one block lie in one aligned square
pub block_square : (b L r c r' c' : ℕ) → L ≤ b → r < 2 ^ b → c < 2 ^ b → r' < 2 ^ b → c' < 2 ^ b
    → interleaved b r' c' / 4 ^ L ≡ interleaved b r c / 4 ^ L → (r' / 2 ^ L ≡ r / 2 ^ L) × (c' / 2 ^ L ≡ c / 2 ^ L)
block_square b L r c r' c' h hr hc hr' hc' e =
    code_injective (b - L) (r' / 2 ^ L) (c' / 2 ^ L) (r / 2 ^ L) (c / 2 ^ L) (small r' hr') (small c' hc') (small r hr) (small c hc)
    (sym (block b L r' c' h) ∙ e ∙ block b L r c h)
  where
    small : (x : ℕ) → x < 2 ^ b → x / 2 ^ L < 2 ^ (b - L)
    small x l = shr_lt (b - L) L (rw (sub-add_cancel h) l)
