-- A tile of a scene, from those of its two maps; and the picture over the block that it is.
use Rattle.std.specs.Prelude.{◌≡◌, List, ℕ, ◌+◌, ◌-◌, ◌%◌, ◌^◌, ◌<◌, refl, Bool, true, false, ◌&&◌, ◌||◌, eqb, leb}
use Rattle.std.proofs.Common.{sym, ap₂, ◌∙◌, arith, ⊎_elim, eqb-true, leb-true}
use Rattle.morton.specs.Block.{Block}
use Rattle.morton.specs.Power.{highest}
use Rattle.probe.specs.Biased.{cell_about}
use Rattle.shortest.specs.Laws.Same.{Same}
use Rattle.tiles.specs.Tile.{Tile, Steps}
use Rattle.tiles.specs.Listing.{spots}
use Rattle.tiles.specs.Listing as listing
use Rattle.tiles.specs.Laws.Codes.{block_cell}
use Rattle.painter.specs.Operation.{combine}
use Rattle.painter.specs.Scene.{Scene, Scened, Knows, cell_of, picture}
use Rattle.painter.specs.Tiled.{Combined, Tiled}
use Rattle.std.proofs.lemmas.Bool.{false≢true}
use Rattle.tiling.specs.Laws.Tests.{and_both, or_either}
use Rattle.probe.specs.declared.seen.Seen.{Seen}
use Rattle.probe.specs.declared.seen.Seen.TheVariants.{One, Mixed}
use Rattle.tiles.specs.Decoding.{Serves, About}

-- the test: the level is a tile's, and of each map one colour is seen, or the map is as large
abbrev pub one_seen : Seen → Bool
one_seen (One c) = true
one_seen (Mixed h) = false

one_or_large : (k : Seen) (n : ℕ) → (one_seen k || leb 4 n) ≡ true → Serves n k
one_or_large (One c) n h = tt
one_or_large (Mixed p) n h = ⊎_elim (λ (a : false ≡ true). absurd (false≢true a)) (λ a. leb-true 4 n a) (or_either _ _ h)

pub tiled_told : (s : Scene) (ka kb : Seen) (level : ℕ) → (eqb level 4 && (one_seen ka || leb 4 s.n) && (one_seen kb || leb 4 s.m)) ≡ true → Tiled s ka kb level
tiled_told s ka kb level h =
    let a = and_both _ _ h in
    let b = and_both _ _ a.0 in
    record { level_is = eqb-true level 4 b.0; first_large = one_or_large ka s.n b.1; second_large = one_or_large kb s.m a.1 }

-- steps are the same a tile's side further on
pub further : (v y : ℕ) → y % 16 ≡ 0 → v % 16 ≡ (v + y) % 16
further v y h = omega arith

-- a tile at row y, column x of the window, and the steps of the window's tiles in each map: each map has what is asked to decode its own
module _ (s : Scene) (a b : List ℕ) (ka kb : Seen) (y x : ℕ) (z : Scened s a b) (k : Knows s a b ka kb y x 4) (t : Tiled s ka kb 4) (y_lt : y < 2 ^ highest) (x_lt : x < 2 ^ highest)
    (rows : y % 16 ≡ 0) (columns : x % 16 ≡ 0) (first second : List ℕ) (p : Steps (s.ay % 16) (s.ax % 16) first) (q : Steps (s.by % 16) (s.bx % 16) second) where
  pub first_about : About s.n a ka (s.ay + y) (s.ax + x) first
  first_about = record {
    holds = k.first;
    large = t.first_large;
    row_lt = omega (arith, z.ay_lt, y_lt);
    column_lt = omega (arith, z.ax_lt, x_lt);
    stepped = rw (further s.ay y rows, further s.ax x columns) at p;
  }

  pub second_about : About s.m b kb (s.by + y) (s.bx + x) second
  second_about = record {
    holds = k.second;
    large = t.second_large;
    row_lt = omega (arith, z.by_lt, y_lt);
    column_lt = omega (arith, z.bx_lt, x_lt);
    stepped = rw (further s.by y rows, further s.bx x columns) at q;
  }

-- cell by cell
pub scene_tile : (s : Scene) (a b : List ℕ) (y x : ℕ) (f g o : List ℕ) → Tile (cell_about s.n a) (s.ay + y) (s.ax + x) 256 f → Tile (cell_about s.m b) (s.by + y) (s.bx + x) 256 g
    → Combined s.operation f g o → Tile (cell_of s a b) y x 256 o
unfolding cell_of
scene_tile s a b y x f g o t u c = record {
  each = λ j h.
      c.each j h
      ∙ ap₂ (combine s.operation) (t.each j h ∙ ap₂ (cell_about s.n a) (omega arith) (omega arith)) (u.each j h ∙ ap₂ (cell_about s.m b) (omega arith) (omega arith));
}

-- a block of the level of a tile
pub block_counts : (k y x : ℕ) → Block k y x 4 → listing.Counts k k 4
block_counts k y x b = record { some = omega arith; from = omega arith; to = omega arith; small = omega (arith, b.fits) }

-- its cells in the order of their codes are the picture over it
pub block_same : (s : Scene) (a b : List ℕ) (k y x : ℕ) (cells : List ℕ) → Block k y x 4 → Tile (cell_of s a b) y x 256 cells → Same (spots cells k) (picture s a b) 4 k
unfolding picture
block_same s a b k y x cells z t j lo hi =
    let i : ℕ = j - k in
    let e : k + i ≡ j = omega arith in
    let q = rw e at (block_cell y x k (omega (arith, z.bottom)) (omega (arith, z.right)) z.rows z.columns (sym z.is) i (omega arith)) in
    t.each i (omega arith) ∙ ap₂ (cell_of s a b) (sym q.0) (sym q.1)

-- what is told of a block whose level is a tile's is told of a tile
pub told_tiled : (s : Scene) (na nb : Seen) (level : ℕ) → Tiled s na nb level → Tiled s na nb 4
told_tiled s na nb level t = record { level_is = refl; first_large = t.first_large; second_large = t.second_large }
