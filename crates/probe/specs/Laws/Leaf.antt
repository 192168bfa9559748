-- What the leaf of a cell tells of the squares about the cell.
use Rattle.std.specs.Prelude.{◌≡◌, true, false, ◌&&◌, List, ℕ, zero, suc, ◌+◌, ◌-◌, ◌*◌, ◌/◌, ◌%◌, ◌^◌, ◌<◌, ◌≤◌, leb, get_or}
use Rattle.std.proofs.Common.{sym, ap, ◌∙◌, mod-lt, arith, pow_pos, pow_mono, pow-add, leb-true, le-leb}
use Rattle.std.proofs.lemmas.Bool.{false≢true}
use Rattle.std.proofs.Math.Nat.{one-le-pow, div-div-eq-div-mul}
use Rattle.morton.specs.Code.{code}
use Rattle.morton.specs.Laws.Code.{code_inside}
use Rattle.morton.specs.Laws.Power.{exponent_le}
use Rattle.morton.specs.Laws.Square.{stays, within, quotient, square_block}
use Rattle.tiling.specs.Leaf.{code_of, level_of, colour_of}
use Rattle.tiling.specs.IsMap.{IsMap}
use Rattle.tiling.specs.Laws.Tests.{and_both}
use Rattle.probe.specs.Search.{Spans, Found}
use Rattle.probe.specs.Seen.{Shows, Covers}
use Rattle.probe.specs.Asked.{cell_at, Cell, Within}
use Rattle.probe.specs.Laws.Search.{found_colour, found_right}

-- one quotient by a power of two gives one by every larger
coarser : (L m a b : ℕ) → L ≤ m → a / 2 ^ L ≡ b / 2 ^ L → a / 2 ^ m ≡ b / 2 ^ m
coarser L m a b le e =
    let s : m ≡ L + (m - L) = omega arith in
    let p : 2 ^ m ≡ 2 ^ L * 2 ^ (m - L) = ap (λ (x : ℕ). 2 ^ x) s ∙ pow-add 2 L (m - L) in
    rw (p, ← div-div-eq-div-mul a (2 ^ L) (2 ^ (m - L)), ← div-div-eq-div-mul b (2 ^ L) (2 ^ (m - L)), e)

module _ (n : ℕ) (l : List ℕ) (row column : ℕ) (z : IsMap n l) (h : Cell n row column) where
  pub cell_bits : (row < 2 ^ 16) × (column < 2 ^ 16)
  cell_bits = let q : 2 ^ n ≤ 2 ^ 15 = pow_mono z.size in omega (arith, h.row_in, h.column_in)

  pub cell_spans : Spans l (code row column)
  cell_spans = record { size = n; formed = z.formed; inside = code_inside n row column (omega (arith, z.size)) h.row_in h.column_in }

  module _ (at : ℕ) (f : Found l (code row column) at) where
    -- a cell in the leaf's aligned square has the leaf's colour
    pub leaf_cell : (r c : ℕ) → r / 2 ^ level_of (get_or l at 0) ≡ row / 2 ^ level_of (get_or l at 0)
        → c / 2 ^ level_of (get_or l at 0) ≡ column / 2 ^ level_of (get_or l at 0) → cell_at l r c ≡ colour_of (get_or l at 0)
    leaf_cell r c hr hc =
        let w = get_or l at 0 in
        let m = level_of w in
        let g = found_right n l z.formed (code row column) at f in
        let same : code r c / 4 ^ m ≡ code row column / 4 ^ m = square_block 16 m row column r c (omega (arith, g.level, z.size)) hr hc in
        let q : code row column / 4 ^ m ≡ code_of w / 4 ^ m = within (code row column) (code_of w) (4 ^ m) g.aligned f.begins f.ends in
        let in_leaf = quotient (code r c) (code_of w) (4 ^ m) (one-le-pow m 4 (omega arith)) g.aligned (same ∙ q) in
        found_colour n l z.formed (code r c) at (record { listed = f.listed; begins = in_leaf.0; ends = in_leaf.1 })

    -- a leaf of the level at least covers the aligned square of its cell
    pub leaf_covers : (level k : ℕ) → colour_of (get_or l at 0) ≡ k → level ≤ level_of (get_or l at 0) → Covers (cell_at l) row column level k
    leaf_covers level k e le = record {
      each = λ r c hr hc.
          leaf_cell r c (coarser level _ r row le hr) (coarser level _ c column le hc) ∙ e;
    }

    -- a square that stays within the leaf's square has the leaf's colour
    pub leaf_shows : (level : ℕ)
        → row % 2 ^ level_of (get_or l at 0) + 2 ^ level ≤ 2 ^ level_of (get_or l at 0)
        → column % 2 ^ level_of (get_or l at 0) + 2 ^ level ≤ 2 ^ level_of (get_or l at 0)
        → Shows (cell_at l) row column level (colour_of (get_or l at 0))
    leaf_shows level a b = record {
      each = λ i j hi hj.
          leaf_cell (row + i) (column + j) (stays row i (2 ^ level) _ a hi) (stays column j (2 ^ level) _ b hj);
    }

module _ (n row column level : ℕ) (h : Within n row column level) where
  pub level_le : level ≤ n
  level_le = exponent_le level n (omega (arith, h.rows))

  pub first_cell : Cell n row column
  first_cell = record { row_in = omega (arith, h.rows, pow_pos level); column_in = omega (arith, h.columns, pow_pos level) }

-- the test that a square stays within the leaf's; a single cell does
pub stays_both : (r c s b : ℕ) → (leb (r % b + s) b && leb (c % b + s) b) ≡ true → (r % b + s ≤ b) × (c % b + s ≤ b)
stays_both r c s b h = let x = and_both (leb (r % b + s) b) (leb (c % b + s) b) h in (leb-true _ _ x.0, leb-true _ _ x.1)

pub leaves_one : (r c s b level : ℕ) → 0 < b → s ≡ 2 ^ level → (leb (r % b + s) b && leb (c % b + s) b) ≡ false → 0 < level
leaves_one r c s b zero p e h =
    let x : leb (r % b + s) b ≡ true = le-leb (r % b + s) b (omega (arith, mod-lt r p)) in
    let y : leb (c % b + s) b ≡ true = le-leb (c % b + s) b (omega (arith, mod-lt c p)) in
    absurd (false≢true (sym h ∙ rw (x, y)))
leaves_one r c s b (suc level) p e h = omega arith
