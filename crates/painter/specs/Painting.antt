-- What counting and writing a scene's list ask. In the code the types `View` and `Glance` say it; the records stay beside them, since the
-- theorems `paints` and `all_paints` of overlays/specs/Laws/Scenes.antt say of `Paints` what the checks find.
use Rattle.std.specs.Prelude.{List, ℕ, ◌≤◌, length}
use Rattle.morton.specs.Power.{highest}
use Rattle.shortest.specs.Shortest.{shortest}
use Rattle.painter.specs.Scene.{Scene, picture, Scened}

-- a window of size w
pub record Paints (s : Scene) (a b : List ℕ) (w : ℕ) : Type 0 where
  pub scened : Scened s a b
  pub size : w ≤ highest

-- for whose shortest list there is room
pub record Writes (s : Scene) (a b : List ℕ) (w : ℕ) (out : List ℕ) : Type 0 where
  pub paints : Paints s a b w
  pub fits : length (shortest (picture s a b) w 0) ≤ length out
