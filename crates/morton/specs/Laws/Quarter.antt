-- A block is the square of side 2 ^ level at its upper left cell, and its quarters come in the order NW, NE, SW, SE.
use Rattle.std.specs.Prelude.{◌≡◌, refl, ◌↔◌, ℕ, zero, suc, ◌+◌, ◌*◌, ◌-◌, ◌/◌, ◌%◌, ◌^◌, ◌<◌, ◌≤◌}
use Rattle.std.proofs.Common.{sym, ap, ap₂, ◌∙◌, mod-lt, sub-add_cancel, div-add-mod', mod-eq_of_lt, arith, pow_pos, pow_mono}
use Rattle.std.proofs.Math.Nat.{add-mul-div_right, add-mul-mod_self_right, one-le-pow, pow-succ', pow-le-pow_right}
use Rattle.std.proofs.Math.Arith.{digits_mod, mod-mul}
use Rattle.morton.specs.Code.{interleaved, code, row_of, column_of}
use Rattle.morton.specs.Laws.Code.{code_split, code_low, code_injective, code_enough}
use Rattle.morton.specs.Laws.Cell.{code_of_cell, cell_inside}
use Rattle.morton.specs.Laws.Spread.{code-spread, spread-mod}
use Rattle.morton.specs.Laws.Square.{stays, within, quotient, square_block, block_square}

-- only the lowest L bits count
code-mod : (L r c : ℕ) → interleaved L (r % 2 ^ L) (c % 2 ^ L) ≡ interleaved L r c
code-mod L r c =
    code-spread L (r % 2 ^ L) (c % 2 ^ L)
    ∙ ap₂ (λ (x y : ℕ). 2 * x + y) (spread-mod L r) (spread-mod L c)
    ∙ sym (code-spread L r c)

pub code-zero : (L : ℕ) → interleaved L 0 0 ≡ 0
unfolding interleaved
code-zero zero = refl
code-zero (suc L) = omega (arith, code-zero L)

-- an aligned cell's code has no low bits
code_aligned : (L r c : ℕ) → r % 2 ^ L ≡ 0 → c % 2 ^ L ≡ 0 → interleaved L r c ≡ 0
code_aligned L r c hr hc = sym (code-mod L r c) ∙ ap₂ (interleaved L) hr hc ∙ code-zero L

pub code_multiple : (b L r c : ℕ) → L ≤ b → r % 2 ^ L ≡ 0 → c % 2 ^ L ≡ 0 → interleaved b r c % 4 ^ L ≡ 0
code_multiple b L r c h hr hc =
    ap (λ (m : ℕ). interleaved m r c % 4 ^ L) (sym (sub-add_cancel h))
    ∙ rw (code_split (b - L) L r c, code_aligned L r c hr hc)
    (digits_mod (interleaved (b - L) (r / 2 ^ L) (c / 2 ^ L)) {r = 0} (one-le-pow L 4 (omega arith)))

-- the other way round: the row and the column of a block's code are multiples of its side
pub cell_multiple : (L k : ℕ) → L ≤ 16 → k < 4 ^ 16 → k % 4 ^ L ≡ 0 → (row_of k % 2 ^ L ≡ 0) × (column_of k % 2 ^ L ≡ 0)
cell_multiple L k h lt e =
    let r : ℕ = row_of k in
    let c : ℕ = column_of k in
    let low : interleaved 16 r c % 4 ^ L ≡ interleaved L r c = ap (λ (m : ℕ). interleaved m r c % 4 ^ L) (sym (sub-add_cancel h)) ∙ code_low (16 - L) L r c in
    let none : interleaved L r c ≡ 0 = sym low ∙ ap (λ (x : ℕ). x % 4 ^ L) (code_of_cell k lt) ∙ e in
    code_injective L (r % 2 ^ L) (c % 2 ^ L) 0 0 (mod-lt r (pow_pos L)) (mod-lt c (pow_pos L)) (pow_pos L) (pow_pos L)
    (code-mod L r c ∙ none ∙ sym (code-zero L))

-- the codes of the block of level L at an aligned cell are those of the cells of the square of side 2 ^ L there
pub block_cells : (b L r c r' c' : ℕ) → L ≤ b → r % 2 ^ L ≡ 0 → c % 2 ^ L ≡ 0 → r < 2 ^ b → c < 2 ^ b → r' < 2 ^ b → c' < 2 ^ b
    → ((interleaved b r c ≤ interleaved b r' c') × (interleaved b r' c' < interleaved b r c + 4 ^ L))
    ↔ ((r ≤ r') × (r' < r + 2 ^ L) × (c ≤ c') × (c' < c + 2 ^ L))
block_cells b L r c r' c' h hr hc lr lc lr' lc' = (to, from)
  where
    al : interleaved b r c % 4 ^ L ≡ 0
    al = code_multiple b L r c h hr hc

    to : (interleaved b r c ≤ interleaved b r' c') × (interleaved b r' c' < interleaved b r c + 4 ^ L) → (r ≤ r') × (r' < r + 2 ^ L) × (c ≤ c') × (c' < c + 2 ^ L)
    to k =
        let s = block_square b L r c r' c' h lr lc lr' lc' (within (interleaved b r' c') (interleaved b r c) (4 ^ L) al k.0 k.1) in
        let x = quotient r' r (2 ^ L) (pow_pos L) hr s.0 in
        let y = quotient c' c (2 ^ L) (pow_pos L) hc s.1 in
        (x.0, x.1, y.0, y.1)

    from : (r ≤ r') × (r' < r + 2 ^ L) × (c ≤ c') × (c' < c + 2 ^ L) → (interleaved b r c ≤ interleaved b r' c') × (interleaved b r' c' < interleaved b r c + 4 ^ L)
    from k =
        quotient (interleaved b r' c') (interleaved b r c) (4 ^ L) (one-le-pow L 4 (omega arith)) al
        (square_block b L r c r' c' h (within r' r (2 ^ L) hr k.0 k.1) (within c' c (2 ^ L) hc k.2 k.3))

no_factor : (x s : ℕ) → 0 < s → x * s ≡ 0 → x ≡ 0
no_factor zero s p e = refl
no_factor (suc x) s p e = absurd (omega arith)

-- a multiple of twice a side is an even multiple of the side
pub halved : (r L : ℕ) → r % 2 ^ suc L ≡ 0 → (r % 2 ^ L ≡ 0) × (r / 2 ^ L % 2 ≡ 0)
halved r L h =
    let e : r % (2 * 2 ^ L) ≡ (r / 2 ^ L % 2) * 2 ^ L + r % 2 ^ L = mod-mul r (omega arith) (pow_pos L) in
    let z : r % (2 * 2 ^ L) ≡ 0 = rw pow-succ' at h in
    (omega arith, no_factor (r / 2 ^ L % 2) (2 ^ L) (pow_pos L) (omega arith))

-- a step of one from an even row or column
even_step : (b r c i j : ℕ) → r % 2 ≡ 0 → c % 2 ≡ 0 → i < 2 → j < 2
    → interleaved (suc b) (r + i) (c + j) ≡ interleaved (suc b) r c + (2 * i + j)
unfolding interleaved
even_step b r c i j hr hc hi hj =
    let er : (r + i) / 2 ≡ r / 2 = omega arith in
    let ec : (c + j) / 2 ≡ c / 2 = omega arith in
    rw (er, ec) (omega arith)

-- the quarter i to the south and j to the east of the block of level L + 1 at an aligned cell
pub quarter : (b L r c i j : ℕ) → r % 2 ^ suc L ≡ 0 → c % 2 ^ suc L ≡ 0 → i < 2 → j < 2
    → interleaved (suc b + L) (r + i * 2 ^ L) (c + j * 2 ^ L) ≡ interleaved (suc b + L) r c + (2 * i + j) * 4 ^ L
quarter b L r c i j hr hc hi hj =
    let ar = halved r L hr in
    let ac = halved c L hc in
    let mr : (r + i * 2 ^ L) % 2 ^ L ≡ 0 = add-mul-mod_self_right r i (2 ^ L) ∙ ar.0 in
    let mc : (c + j * 2 ^ L) % 2 ^ L ≡ 0 = add-mul-mod_self_right c j (2 ^ L) ∙ ac.0 in
    rw (code_split (suc b) L (r + i * 2 ^ L) (c + j * 2 ^ L), code_split (suc b) L r c, code_aligned L (r + i * 2 ^ L) (c + j * 2 ^ L) mr mc, code_aligned L r c ar.0 ac.0, add-mul-div_right r i (pow_pos L), add-mul-div_right c j (pow_pos L), even_step b (r / 2 ^ L) (c / 2 ^ L) i j ar.1 ac.1 hi hj)
    (omega arith)

-- a cell of an aligned square, by its distance from the square's first cell
place_mod : (r i s : ℕ) → r % s ≡ 0 → i < s → (r + i) % s ≡ i
place_mod r i s h l =
    let e : r + i ≡ i + r / s * s = omega (arith, div-add-mod' r s) in
    ap (λ (x : ℕ). x % s) e ∙ add-mul-mod_self_right i (r / s) s ∙ mod-eq_of_lt l

-- the cells of the block of level L at an aligned cell, in the order of their codes, lie as those of the block at (0, 0) do
pub aligned_place : (L r c j : ℕ) → L ≤ 16 → r % 2 ^ L ≡ 0 → c % 2 ^ L ≡ 0 → j < 4 ^ L
    → code (r + row_of j) (c + column_of j) ≡ code r c + j
aligned_place L r c j h hr hc hj =
    let s = cell_inside L j h hj in
    let q : 4 ^ L ≤ 4 ^ 16 = pow-le-pow_right (omega arith) h in
    let w : 2 ^ L ≤ 2 ^ 16 = pow_mono h in
    let e : (16 - L) + L ≡ 16 = sub-add_cancel h in
    let low : interleaved L (r + row_of j) (c + column_of j) ≡ j =
    sym (code-mod L (r + row_of j) (c + column_of j))
    ∙ ap₂ (interleaved L) (place_mod r (row_of j) (2 ^ L) hr s.0) (place_mod c (column_of j) (2 ^ L) hc s.1)
    ∙ code_enough L 16 (row_of j) (column_of j) s.0 s.1 (omega arith) (omega arith)
    ∙ code_of_cell j (omega arith) in
    let high : interleaved (16 - L) ((r + row_of j) / 2 ^ L) ((c + column_of j) / 2 ^ L) ≡ interleaved (16 - L) (r / 2 ^ L) (c / 2 ^ L) =
    ap₂ (interleaved (16 - L)) (stays r (row_of j) (2 ^ L) (2 ^ L) (omega arith) s.0) (stays c (column_of j) (2 ^ L) (2 ^ L) (omega arith) s.1) in
    let one = rw (low, high, e) at (code_split (16 - L) L (r + row_of j) (c + column_of j)) in
    let two = rw (code_aligned L r c hr hc, e) at (code_split (16 - L) L r c) in
    omega (arith, one, two)
