-- From a code back to its cell: the row and the column of a code, and the code of a row and a column, undo one another.
use Rattle.std.specs.Prelude.{◌≡◌, refl, ℕ, zero, suc, ◌+◌, ◌*◌, ◌-◌, ◌/◌, ◌%◌, ◌^◌, ◌<◌, ◌≤◌}
use Rattle.std.proofs.Common.{sym, ap, ◌∙◌, arith, pow_mono}
use Rattle.morton.specs.Code.{interleaved, gathered, code, row_of, column_of}
use Rattle.morton.specs.Laws.Code.{code_enough}

pub gathered-lt : (b k : ℕ) → gathered b k < 2 ^ b
unfolding gathered
gathered-lt zero k = omega arith
gathered-lt (suc b) k = omega (arith, gathered-lt b (k / 4))

-- one digit after another, from the lowest
pub gathered_none : (d k : ℕ) → d ≡ 0 → 0 ≡ gathered d k
unfolding gathered
gathered_none zero k h = refl
gathered_none (suc d) k h = absurd (omega arith)

pub gathered_step : (d k : ℕ) → (d ≡ 0 → ⊥) → 2 * gathered (d - 1) (k / 4) + k % 2 ≡ gathered d k
unfolding gathered
gathered_step zero k h = absurd (h refl)
gathered_step (suc d) k h = let e : suc d - 1 ≡ d = omega arith in rw e

-- the code of the cell of a code
pub interleaved-gathered : (b k : ℕ) → k < 4 ^ b → interleaved b (gathered b (k / 2)) (gathered b k) ≡ k
unfolding interleaved gathered
interleaved-gathered zero k h = omega arith
interleaved-gathered (suc b) k h =
    let er : (2 * gathered b (k / 2 / 4) + k / 2 % 2) / 2 ≡ gathered b (k / 2 / 4) = omega arith in
    let ec : (2 * gathered b (k / 4) + k % 2) / 2 ≡ gathered b (k / 4) = omega arith in
    let eh : k / 2 / 4 ≡ k / 4 / 2 = omega arith in
    rw (er, ec, eh, interleaved-gathered b (k / 4) (omega arith)) (omega arith)

-- the cell of the code of a cell
pub gathered_column : (b r c : ℕ) → c < 2 ^ b → gathered b (interleaved b r c) ≡ c
unfolding interleaved gathered
gathered_column zero r c h = omega arith
gathered_column (suc b) r c h =
    let e : (4 * interleaved b (r / 2) (c / 2) + 2 * (r % 2) + c % 2) / 4 ≡ interleaved b (r / 2) (c / 2) = omega arith in
    rw (e, gathered_column b (r / 2) (c / 2) (omega arith)) (omega arith)

pub gathered_row : (b r c : ℕ) → r < 2 ^ b → gathered b (interleaved b r c / 2) ≡ r
unfolding interleaved gathered
gathered_row zero r c h = omega arith
gathered_row (suc b) r c h =
    let e : (4 * interleaved b (r / 2) (c / 2) + 2 * (r % 2) + c % 2) / 2 / 4 ≡ interleaved b (r / 2) (c / 2) / 2 = omega arith in
    rw (e, gathered_row b (r / 2) (c / 2) (omega arith)) (omega arith)

pub code_of_cell : (k : ℕ) → k < 4 ^ 16 → code (row_of k) (column_of k) ≡ k
code_of_cell k h = interleaved-gathered 16 k h

pub cell_of-code : (r c : ℕ) → r < 2 ^ 16 → c < 2 ^ 16 → (row_of (code r c) ≡ r) × (column_of (code r c) ≡ c)
cell_of-code r c hr hc = (gathered_row 16 r c hr, gathered_column 16 r c hc)

-- a code of a square of size n is that of a cell of the square
pub cell_inside : (n k : ℕ) → n ≤ 16 → k < 4 ^ n → (row_of k < 2 ^ n) × (column_of k < 2 ^ n)
cell_inside n k h hk =
    let q : 2 ^ n ≤ 2 ^ 16 = pow_mono h in
    let r : ℕ = gathered n (k / 2) in
    let c : ℕ = gathered n k in
    let lr = gathered-lt n (k / 2) in
    let lc = gathered-lt n k in
    let e : k ≡ code r c = sym (interleaved-gathered n k hk) ∙ code_enough n 16 r c lr lc (omega arith) (omega arith) in
    let s = cell_of-code r c (omega arith) (omega arith) in
    let er : row_of k ≡ r = ap row_of e ∙ s.0 in
    let ec : column_of k ≡ c = ap column_of e ∙ s.1 in
    omega arith
