-- The codes of a map that stand in a tile: leaf after leaf, and block by block.
use Rattle.std.specs.Prelude.{◌≡◌, refl, false, List, ℕ, suc, ◌+◌, ◌-◌, ◌*◌, ◌%◌, ◌^◌, ◌<◌, ◌≤◌, length, get_or}
use Rattle.std.proofs.Common.{sym, ap, ◌∙◌, arith, lt-ltb, le-ltb, pow-add, pow_mono}
use Rattle.std.proofs.Math.Nat.{one-le-pow}
use Rattle.std.proofs.Math.Decide.{dec_lt}
use Rattle.morton.specs.Code.{interleaved, code, row_of, column_of}
use Rattle.morton.specs.Laws.Code.{code_inside}
use Rattle.morton.specs.Laws.Cell.{cell_inside, cell_of-code}
use Rattle.morton.specs.Laws.Quarter.{code_multiple, aligned_place}
use Rattle.tiling.specs.Leaf.{level_of, colour_of, end_of}
use Rattle.tiling.specs.Map.{colour_at}
use Rattle.tiling.specs.WellFormed.{WellFormed, end_before}
use Rattle.probe.specs.Biased.{bias, beyondb, cell_about}
use Rattle.probe.specs.Search.{Found}
use Rattle.probe.specs.Laws.About.{apart_bounds, inner_cell}
use Rattle.probe.specs.Laws.Search.{found_colour}
use Rattle.tiles.specs.Tile.{codes, step_to}
use Rattle.morton.specs.Power.{highest}
use Rattle.tiles.specs.Decoding.{last_of, Aligned}

-- where a leaf's cells end among 256
pub last_short : (w k from : ℕ) → end_of w - k < 256 → last_of w k from ≡ from + (end_of w - k)
last_short w k from h = rw (lt-ltb (end_of w - k) 256 h) refl

pub last_long : (w k from : ℕ) → 256 ≤ end_of w - k → last_of w k from ≡ from + 256
last_long w k from h = rw (le-ltb (end_of w - k) 256 h) refl

last_inside : (w k from i : ℕ) → from ≤ i → i < last_of w k from → k + (i - from) < end_of w
last_inside w k from i h b = elim (dec_lt (end_of w - k) 256) [
  | yes m ↦ omega (arith, last_short w k from m)
  | no m ↦ omega (arith, last_long w k from (omega arith))
]

last_past : (w k from place : ℕ) → from ≤ place → place < from + 256 → k + (place - from) < end_of w → place < last_of w k from
last_past w k from place h m g = elim (dec_lt (end_of w - k) 256) [
  | yes a ↦ omega (arith, last_short w k from a)
  | no a ↦ omega (arith, last_long w k from (omega arith))
]

pub last_within : (w k from : ℕ) → last_of w k from ≤ from + 256
last_within w k from = elim (dec_lt (end_of w - k) 256) [
  | yes a ↦ omega (arith, last_short w k from a)
  | no a ↦ omega (arith, last_long w k from (omega arith))
]

last_next : (w k from : ℕ) → k < end_of w → last_of w k from < from + 256 → k + (last_of w k from - from) ≡ end_of w
last_next w k from g m = elim (dec_lt (end_of w - k) 256) [
  | yes a ↦ omega (arith, last_short w k from a)
  | no a ↦ absurd (omega (arith, last_long w k from (omega arith)))
]

-- the leaf after the one that ends at a code begins there
module _ (n : ℕ) (l : List ℕ) (f : WellFormed n l) where
  last_end : (i : ℕ) → i ≡ length l → end_before l i ≡ 4 ^ n
  last_end i e = rw e f.ends

  pub next_found : (k at : ℕ) → Found l k at → end_of (get_or l at 0) < 4 ^ n → Found l (end_of (get_or l at 0)) (at + 1)
  next_found k at g h =
      let e : at + 1 ≡ suc at = omega arith in
      let q : at + 1 < length l = elim (dec_lt (at + 1) (length l)) [
        | yes m ↦ m
        | no m ↦ absurd (omega (arith, last_end (suc at) (omega (arith, g.listed))))
      ] in
      let r = f.right (suc at) (omega arith) in
      record {
        listed = q;
        begins = rw e (omega (arith, r.follows));
        ends = rw e (omega (arith, r.follows, one-le-pow (level_of (get_or l (suc at) 0)) 4 (omega arith)));
      }

  -- the places up to a leaf's last among the 256 have its colour
  pub run_colours : (k from place at : ℕ) → from ≤ place → Found l (k + (place - from)) at
      → (i : ℕ) → place ≤ i → i < last_of (get_or l at 0) k from → codes l k from i ≡ colour_of (get_or l at 0)
  run_colours k from place at h g i a b =
      found_colour n l f (k + (i - from)) at
      (record { listed = g.listed; begins = omega (arith, g.begins); ends = last_inside (get_or l at 0) k from i (omega arith) b })

  -- there is one at least, and they end within the 256; short of their end the next leaf follows
  pub run_some : (k from place at : ℕ) → from ≤ place → place < from + 256 → Found l (k + (place - from)) at → place < last_of (get_or l at 0) k from
  run_some k from place at h m g = last_past (get_or l at 0) k from place h m g.ends

  pub run_next : (k from place at : ℕ) → k + 256 ≤ 4 ^ n → Found l (k + (place - from)) at → last_of (get_or l at 0) k from < from + 256
      → Found l (k + (last_of (get_or l at 0) k from - from)) (at + 1)
  run_next k from place at h g m =
      let w = get_or l at 0 in
      let e = last_next w k from (omega (arith, g.ends)) m in
      rw e (next_found (k + (place - from)) at g (omega (arith, e)))

-- ---- cells by their place in a tile

-- a cell of a tile is fewer than 16 rows and columns from the first
pub tile_cell_lem : (j : ℕ) → j < 256 → (row_of j < 16) × (column_of j < 16)
tile_cell_lem j h = cell_inside 4 j (omega arith) (omega arith)

-- a step stays within four blocks
pub step_small : (row column j : ℕ) → row < 16 → column < 16 → j < 256 → step_to row column j < 1024
step_small row column j hr hc h =
    let c = tile_cell_lem j h in
    let s : code (row + row_of j) (column + column_of j) < 4 ^ 5 = code_inside 5 (row + row_of j) (column + column_of j) (omega arith) (omega arith) (omega arith) in
    omega arith

-- the cells of the aligned block of 256 whose first cell is at (r, c) and whose first code is k
pub block_cell : (r c k : ℕ) → r < 2 ^ 15 → c < 2 ^ 15 → r % 16 ≡ 0 → c % 16 ≡ 0 → code r c ≡ k
    → (j : ℕ) → j < 256 → (row_of (k + j) ≡ r + row_of j) × (column_of (k + j) ≡ c + column_of j)
block_cell r c k lr lc hr hc e j h =
    let t = tile_cell_lem j h in
    let p : code (r + row_of j) (c + column_of j) ≡ k + j = aligned_place 4 r c j (omega arith) hr hc (omega arith) ∙ ap (λ (x : ℕ). x + j) e in
    let q = cell_of-code (r + row_of j) (c + column_of j) (omega arith) (omega arith) in
    rw p at q

-- the four blocks of 256 cells of a square of 1,024
pub second_block : code 0 16 ≡ 256
unfolding interleaved
second_block = refl

pub third_block : code 16 0 ≡ 512
unfolding interleaved
third_block = refl

pub fourth_block : code 16 16 ≡ 768
unfolding interleaved
fourth_block = refl

-- a map of more than a tile, in tiles
tiles_wide : (n : ℕ) → 4 ≤ n → (2 ^ n ≡ 16 * 2 ^ (n - 4)) × (4 ^ n ≡ 256 * 4 ^ (n - 4))
tiles_wide n h =
    let e : n ≡ 4 + (n - 4) = omega arith in
    (ap (λ (k : ℕ). 2 ^ k) e ∙ pow-add 2 4 (n - 4), ap (λ (k : ℕ). 4 ^ k) e ∙ pow-add 4 4 (n - 4))

-- an aligned block that is not wholly beyond the map lies within it
pub record Inside (n row column : ℕ) : Type 0 where
  pub top : bias ≤ row
  pub left : bias ≤ column
  pub bottom : row + 16 ≤ bias + 2 ^ n
  pub right : column + 16 ≤ bias + 2 ^ n

pub inside : (n row column : ℕ) → Aligned n row column → beyondb row column 16 (bias + 2 ^ n) ≡ false → Inside n row column
inside n row column a h =
    let b = apart_bounds row column 16 (bias + 2 ^ n) h in
    let w = (tiles_wide n a.large).0 in
    let r = a.rows in
    let c = a.columns in
    record { top = omega arith; left = omega arith; bottom = omega arith; right = omega arith }

module _ (n : ℕ) (l : List ℕ) (row column : ℕ) (z : n ≤ highest) (a : Aligned n row column) (i : Inside n row column) where
  first_row : (row - bias < 2 ^ 15) × (column - bias < 2 ^ 15) × ((row - bias) % 16 ≡ 0) × ((column - bias) % 16 ≡ 0) × (row - bias < 2 ^ n) × (column - bias < 2 ^ n)
  first_row =
      let q : 2 ^ n ≤ 2 ^ 15 = pow_mono z in
      (omega (arith, i.bottom), omega (arith, i.right), omega (arith, i.top, a.rows), omega (arith, i.left, a.columns), omega (arith, i.bottom), omega (arith, i.right))

  -- all its codes are the map's
  pub inside-codes : code (row - bias) (column - bias) + 256 ≤ 4 ^ n
  inside-codes =
      let f = first_row in
      let m : code (row - bias) (column - bias) % 4 ^ 4 ≡ 0 = code_multiple 16 4 (row - bias) (column - bias) (omega arith) f.2 f.3 in
      let k : code (row - bias) (column - bias) < 4 ^ n = code_inside n (row - bias) (column - bias) (omega (arith, z)) f.4 f.5 in
      let w = (tiles_wide n a.large).1 in
      omega arith

  -- and in their order they are its cells
  pub inside-cells : (j : ℕ) → j < 256 → colour_at l (code (row - bias) (column - bias) + j) ≡ cell_about n l (row + row_of j) (column + column_of j)
  inside-cells j h =
      let t = tile_cell_lem j h in
      let f = first_row in
      sym (inner_cell n l row column 16 i.top i.left i.bottom i.right (row_of j) (column_of j) t.0 t.1
      ∙ ap (colour_at l) (aligned_place 4 (row - bias) (column - bias) j (omega arith) f.2 f.3 (omega arith)))
