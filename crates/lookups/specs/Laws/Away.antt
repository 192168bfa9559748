-- One side away from a block of a square lies, within the square, a block of the same level.
use Rattle.std.specs.Prelude.{◌≡◌, refl, Bool, true, false, ◌&&◌, ℕ, zero, suc, ◌+◌, ◌*◌, ◌-◌, ◌%◌, ◌^◌, ◌<◌, ◌≤◌, leb, ltb, eqb, ℤ, pos, negsuc, ◌+ℤ◌, ◌*ℤ◌, neg_ℤ, nat_abs}
use Rattle.std.proofs.Common.{sym, ap, ap₂, ◌∙◌, arith, pow_mono, pow_pos, leb-true, ltb-true, eqb-true, le-leb, lt-ltb, eq-eqb, ltb-false}
use Rattle.std.proofs.lemmas.Bool.{false≢true}
use Rattle.std.proofs.Math.Nat.{add-mul-mod_self_right, pow-le-pow_right}
use Rattle.std.proofs.Math.IntN.{sub_ℕ}
use Rattle.morton.specs.Code.{code, row_of, column_of}
use Rattle.morton.specs.Laws.Code.{code_inside}
use Rattle.morton.specs.Laws.Cell.{code_of_cell, cell_of-code, cell_inside}
use Rattle.morton.specs.Laws.Quarter.{cell_multiple, code_multiple}
use Rattle.tiling.specs.Map.{limit, within, inside}
use Rattle.tiling.specs.Laws.Tests.{and_both, both_and}
use Rattle.tiling.specs.Laws.Signed.{within-lt, inside_both}
use Rattle.lookups.specs.Neighbour.{is_block, southward, eastward, row_away, column_away}
use Rattle.lookups.specs.declared.neighbours.Direction.{Direction}
use Rattle.lookups.specs.declared.neighbours.Direction.TheVariants.{North, NorthEast, East, SouthEast, South, SouthWest, West, NorthWest}

-- a block's code, as facts
pub record Block (n k level : ℕ) : Type 0 where
  pub level_le : level ≤ n
  pub code_lt : k < 4 ^ n
  pub aligned : k % 4 ^ level ≡ 0

pub is_block_lem : (n k level : ℕ) → is_block n k level ≡ true → Block n k level
is_block_lem n k level h =
    let x = and_both (leb level n && ltb k (4 ^ n)) (eqb (k % 4 ^ level) 0) h in
    let y = and_both (leb level n) (ltb k (4 ^ n)) x.0 in
    record { level_le = leb-true _ _ y.0; code_lt = ltb-true _ _ y.1; aligned = eqb-true _ _ x.1 }

block_is : (n k level : ℕ) → Block n k level → is_block n k level ≡ true
block_is n k level b =
    both_and (leb level n && ltb k (4 ^ n)) (eqb (k % 4 ^ level) 0)
    (both_and (leb level n) (ltb k (4 ^ n)) (le-leb _ _ b.level_le) (lt-ltb _ _ b.code_lt)) (eq-eqb _ _ b.aligned)

-- a direction leads at most one side each way
pub data Once : ℤ → Type 0 where
  back : Once (negsuc 0)
  stay : Once (pos 0)
  on : Once (pos 1)

pub south_once : (d : Direction) → Once (southward d)
south_once North = back
south_once NorthEast = back
south_once East = stay
south_once SouthEast = on
south_once South = on
south_once SouthWest = on
south_once West = stay
south_once NorthWest = back

pub east_once : (d : Direction) → Once (eastward d)
east_once North = stay
east_once NorthEast = on
east_once East = on
east_once SouthEast = on
east_once South = stay
east_once SouthWest = back
east_once West = back
east_once NorthWest = back

pub once_le : (w : ℤ) → Once w → nat_abs w ≤ 1
once_le w back = omega arith
once_le w stay = omega arith
once_le w on = omega arith

-- what lies within a square is its own size
within_pos : (n : ℕ) (z : ℤ) → within n z ≡ true → pos (nat_abs z) ≡ z
within_pos n (pos v) h = refl
within_pos n (negsuc v) h = absurd (false≢true h)

-- one side further or back, a multiple of the side is one again
one_less : (v s : ℕ) → s ≤ v → v % s ≡ 0 → (v - s) % s ≡ 0
one_less v s h e =
    let f : v - s + 1 * s ≡ v = omega arith in
    sym (add-mul-mod_self_right (v - s) 1 s) ∙ ap (λ (x : ℕ). x % s) f ∙ e

less_within : (n v s : ℕ) → within n (sub_ℕ v s) ≡ true → (s ≤ v) × (nat_abs (sub_ℕ v s) ≡ v - s)
less_within n v s h = go (ltb v s) refl
  where
    go : (b : Bool) → ltb v s ≡ b → (s ≤ v) × (nat_abs (sub_ℕ v s) ≡ v - s)
    go true p = absurd (false≢true (rw p at h))
    go false p = (ltb-false v s p, rw p)

away_multiple : (n v s : ℕ) (w : ℤ) → 0 < s → Once w → v % s ≡ 0 → within n (pos v +ℤ w *ℤ pos s) ≡ true → nat_abs (pos v +ℤ w *ℤ pos s) % s ≡ 0
away_multiple n v s w p stay e h = let f : v + 0 * s ≡ v = omega arith in ap (λ (x : ℕ). x % s) f ∙ e
away_multiple n v s w p on e h = add-mul-mod_self_right v 1 s ∙ e
away_multiple n v zero w p back e h = absurd (omega arith)
away_multiple n v (suc s) w p back e h =
    let f : 1 * suc s ≡ suc s = omega arith in
    let g : pos v +ℤ negsuc 0 *ℤ pos (suc s) ≡ sub_ℕ v (suc s) = ap (λ (x : ℕ). pos v +ℤ neg_ℤ (pos x)) f in
    let l = less_within n v (suc s) (rw g at h) in
    ap (λ (z : ℤ). nat_abs z % suc s) g ∙ rw l.1 (one_less v (suc s) l.0 e)

-- a code of a square has few enough bits
code-bits : (n k : ℕ) → n ≤ limit → k < 4 ^ n → k < 4 ^ 16
code-bits n k h l = let q : 4 ^ n ≤ 4 ^ 12 = pow-le-pow_right (omega arith) h in omega arith

-- the block one side away
pub record Away (n k level : ℕ) (d : Direction) (j : ℕ) : Type 0 where
  pub block : is_block n j level ≡ true
  pub row : pos (row_of j) ≡ row_away k level d
  pub column : pos (column_of j) ≡ column_away k level d

module _ (n k level : ℕ) (d : Direction) (hn : n ≤ limit) where
  pub away_block : is_block n k level ≡ true → inside n (row_away k level d) (column_away k level d) ≡ true
      → Away n k level d (code (nat_abs (row_away k level d)) (nat_abs (column_away k level d)))
  away_block b h =
      let q : 2 ^ n ≤ 2 ^ 12 = pow_mono hn in
      let x = is_block_lem n k level b in
      let i = inside_both n (row_away k level d) (column_away k level d) h in
      let r : nat_abs (row_away k level d) < 2 ^ n = within-lt n (row_away k level d) i.0 in
      let c : nat_abs (column_away k level d) < 2 ^ n = within-lt n (column_away k level d) i.1 in
      let e = cell_of-code (nat_abs (row_away k level d)) (nat_abs (column_away k level d)) (omega arith) (omega arith) in
      let m = cell_multiple level k (omega (arith, x.level_le)) (code-bits n k hn x.code_lt) x.aligned in
      record {
        block = block_is n _ level (record {
          level_le = x.level_le;
          code_lt = code_inside n _ _ (omega arith) r c;
          aligned = code_multiple 16 level _ _ (omega (arith, x.level_le))
              (away_multiple n (row_of k) (2 ^ level) (southward d) (pow_pos level) (south_once d) m.0 i.0)
              (away_multiple n (column_of k) (2 ^ level) (eastward d) (pow_pos level) (east_once d) m.1 i.1);
        });
        row = ap pos e.0 ∙ within_pos n (row_away k level d) i.0;
        column = ap pos e.1 ∙ within_pos n (column_away k level d) i.1;
      }

  -- and it is the only one
  pub block_away : (j : ℕ) → is_block n j level ≡ true → pos (row_of j) ≡ row_away k level d → pos (column_of j) ≡ column_away k level d
      → (inside n (row_away k level d) (column_away k level d) ≡ true) × (code (nat_abs (row_away k level d)) (nat_abs (column_away k level d)) ≡ j)
  block_away j b r c =
      let x = is_block_lem n j level b in
      let i = cell_inside n j (omega arith) x.code_lt in
      let y : within n (row_away k level d) ≡ true = ap (within n) (sym r) ∙ lt-ltb _ _ i.0 in
      let z : within n (column_away k level d) ≡ true = ap (within n) (sym c) ∙ lt-ltb _ _ i.1 in (
        both_and _ _ y z,
        ap₂ code (ap nat_abs (sym r)) (ap nat_abs (sym c)) ∙ code_of_cell j (code-bits n j hn x.code_lt),
      )
