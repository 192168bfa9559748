-- From a block to its quarters, in codes, rows and columns; and which cells are a block's.
use Rattle.std.specs.Prelude.{◌≡◌, ℕ, suc, ◌+◌, ◌*◌, ◌-◌, ◌^◌, ◌≤◌, ◌<◌}
use Rattle.std.proofs.Common.{sym, ap, ◌∙◌, subst, arith, pow_pos, pow_mono}
use Rattle.std.proofs.Math.Nat.{add-mul-mod_self_right, pow-le-pow_right, zero-mod}
use Rattle.morton.specs.Code.{code, row_of, column_of}
use Rattle.morton.specs.Power.{highest}
use Rattle.morton.specs.Block.{Block, Quarters, Quarter}
use Rattle.morton.specs.Laws.Power.{exponent_le}
use Rattle.morton.specs.Laws.Cell.{code_of_cell, gathered-lt}
use Rattle.morton.specs.Laws.Quarter.{quarter, halved, block_cells, code-zero}

pub block_level : (k y x L : ℕ) → Block k y x L → L ≤ highest
block_level k y x L b = exponent_le L highest (omega (arith, b.bottom))

-- the quarter i to the south and j to the east
quarter_block : (k y x L i j : ℕ) → i < 2 → j < 2 → Block k y x (suc L) → (k' y' x' : ℕ)
    → k + (2 * i + j) * 4 ^ L ≡ k' → y + i * 2 ^ L ≡ y' → x + j * 2 ^ L ≡ x' → k' + 4 ^ L ≤ 4 ^ highest → y' + 2 ^ L ≤ 2 ^ highest → x' + 2 ^ L ≤ 2 ^ highest
    → Block k' y' x' L
quarter_block k y x L i j hi hj b k' y' x' ek ey ex fk fy fx =
    let e : suc (15 - L) + L ≡ 16 = omega (arith, block_level k y x (suc L) b) in
    let c = quarter (15 - L) L y x i j b.rows b.columns hi hj in
    record {
      is = rw (← ek, ← ey, ← ex) (ap (λ (n : ℕ). n + (2 * i + j) * 4 ^ L) b.is ∙ sym (rw e at c));
      rows = rw (← ey) (add-mul-mod_self_right y i (2 ^ L) ∙ (halved y L b.rows).0);
      columns = rw (← ex) (add-mul-mod_self_right x j (2 ^ L) ∙ (halved x L b.columns).0);
      fits = fk;
      bottom = fy;
      right = fx;
    }

quarters_suc : (k y x L h q : ℕ) → q ≡ 4 ^ L → h ≡ 2 ^ L → Block k y x (suc L) → Quarters k y x L h q
quarters_suc k y x L h q eq eh b =
    let f = b.fits in
    let fy = b.bottom in
    let fx = b.right in
    let p = pow_pos L in
    record {
      nw = quarter_block k y x L 0 0 (omega arith) (omega arith) b k y x (omega arith) (omega arith) (omega arith) (omega arith) (omega arith) (omega arith);
      ne = quarter_block k y x L 0 1 (omega arith) (omega arith) b (k + q) y (x + h) (omega arith) (omega arith) (omega arith) (omega arith) (omega arith) (omega arith);
      sw = quarter_block k y x L 1 0 (omega arith) (omega arith) b (k + 2 * q) (y + h) x (omega arith) (omega arith) (omega arith) (omega arith) (omega arith) (omega arith);
      se = quarter_block k y x L 1 1 (omega arith) (omega arith) b (k + 3 * q) (y + h) (x + h) (omega arith) (omega arith) (omega arith) (omega arith) (omega arith) (omega arith);
      codes = omega arith;
      bottom = omega arith;
      right = omega arith;
    }

-- the quarters of a block that is no single cell, one level down
pub quarters : (k y x level h q : ℕ) → 0 < level → q ≡ 4 ^ (level - 1) → h ≡ 2 ^ (level - 1) → Block k y x level → Quarters k y x (level - 1) h q
quarters k y x level h q p eq eh b =
    let e : level ≡ suc (level - 1) = omega arith in
    quarters_suc k y x (level - 1) h q eq eh (subst (λ (n : ℕ). Block k y x n) e b)

-- a quarter's code, as the caller has it, and its level
pub quarter_place : {k level i c l t : ℕ} → Quarter k level i c l → t ≡ k + i * 4 ^ (level - 1) → (c ≡ t) × (l ≡ level - 1)
quarter_place q e = (q.code ∙ sym e, q.level)

-- a quarter by its code and its level is the block at its row and column
pub quarter_at : {k level k' level' i c l y x t : ℕ} → (k' ≡ k) × (level' ≡ level) → Quarter k' level' i c l → t ≡ k + i * 4 ^ (level - 1)
    → Block t y x (level - 1) → Block c y x l
quarter_at e q p b = rw (q.code, q.level, e.0, e.1, ← p) b

-- the whole square of size n
pub whole : (n : ℕ) → n ≤ highest → Block 0 0 0 n
whole n h =
    let a : 4 ^ n ≤ 4 ^ 15 = pow-le-pow_right (omega arith) h in
    let b : 2 ^ n ≤ 2 ^ 15 = pow_mono h in
    record { is = sym (code-zero 16); rows = zero-mod (2 ^ n); columns = zero-mod (2 ^ n); fits = omega arith; bottom = omega arith; right = omega arith }

-- the cell of a code of the block lies in the block's square
pub block_cell : (k y x L : ℕ) → Block k y x L → (j : ℕ) → k ≤ j → j < k + 4 ^ L → (y ≤ row_of j) × (row_of j < y + 2 ^ L) × (x ≤ column_of j) × (column_of j < x + 2 ^ L)
block_cell k y x L b j lo hi =
    let e : code (row_of j) (column_of j) ≡ j = code_of_cell j (omega (arith, b.fits)) in
    let p = pow_pos L in
    (block_cells 16 L y x (row_of j) (column_of j) (omega (arith, block_level k y x L b)) b.rows b.columns (omega (arith, b.bottom)) (omega (arith, b.right)) (gathered-lt 16 _) (gathered-lt 16 _)).0
    (omega (arith, b.is), omega (arith, b.is))
