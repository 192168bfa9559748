-- A scene as a picture, and what the functions that look at it ask and tell. Rows and columns of the maps are biased.
use Rattle.std.specs.Prelude.{List, ℕ, ◌+◌, ◌^◌, ◌<◌, ◌≤◌}
use Rattle.morton.specs.Code.{row_of, column_of}
use Rattle.morton.specs.Power.{highest}
use Rattle.tiling.specs.WellFormed.{WellFormed}
use Rattle.probe.specs.Seen.{Tells, Holds}
use Rattle.probe.specs.declared.seen.Seen.{Seen}
use Rattle.probe.specs.Biased.{cell_about}
use Rattle.painter.specs.Operation.{combine}
use Rattle.painter.specs.declared.operations.Operation.{Operation}

-- two maps of sizes n and m under an operation, and where the window's first cell lies in each, at biased rows and columns
pub record Scene : Type 0 where
  pub operation : Operation
  pub n : ℕ
  pub m : ℕ
  pub ay : ℕ
  pub ax : ℕ
  pub by : ℕ
  pub bx : ℕ

-- the colour of the window's cell at row y, column x
unfoldable pub cell_of : Scene → List ℕ → List ℕ → ℕ → ℕ → ℕ
cell_of s a b y x = combine s.operation (cell_about s.n a (s.ay + y) (s.ax + x)) (cell_about s.m b (s.by + y) (s.bx + x))

-- the window as a picture over codes
unfoldable pub picture : Scene → List ℕ → List ℕ → ℕ → ℕ
picture s a b k = cell_of s a b (row_of k) (column_of k)

-- the two lists are maps, and the window lies near them: a record beside the types `Map` and `Layer`, since the theorems `paints` and `all_paints` of
-- overlays/specs/Laws/Scenes.antt say of it what the checks find
pub record Scened (s : Scene) (a b : List ℕ) : Type 0 where
  pub first-size : s.n ≤ highest
  pub second-size : s.m ≤ highest
  pub first_formed : WellFormed s.n a
  pub second_formed : WellFormed s.m b
  pub ay_lt : s.ay < 2 ^ 19
  pub ax_lt : s.ax < 2 ^ 19
  pub by_lt : s.by < 2 ^ 19
  pub bx_lt : s.bx < 2 ^ 19

-- what is known of each map over the square of the level at (y, x) is right
pub record Knows (s : Scene) (a b : List ℕ) (ka kb : Seen) (y x level : ℕ) : Type 0 where
  pub first : Holds (cell_about s.n a) (s.ay + y) (s.ax + x) level ka
  pub second : Holds (cell_about s.m b) (s.by + y) (s.bx + x) level kb

-- what is told of the scene, and what is known of the maps from then on
pub record Told (s : Scene) (a b : List ℕ) (y x level : ℕ) (all ka kb : Seen) : Type 0 where
  pub knows : Knows s a b ka kb y x level
  pub shows : Tells (cell_of s a b) y x level all
