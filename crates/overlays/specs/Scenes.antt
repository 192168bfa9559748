-- What the steps of an overlay mean: the maps that are judged, and the painter's scene.
use Rattle.std.specs.Prelude.{List, ℕ, ◌-ℤ◌, Result, Ok, Err}
use Rattle.refusal.specs.declared.Refusal.{Refusal}
use Rattle.tiling.specs.Judged.{Of}
use Rattle.tiling.specs.declared.Map.{Map}
use Rattle.probe.specs.Biased.{biased}
use Rattle.place.specs.declared.Shift.{Shift}
use Rattle.painter.specs.declared.operations.Operation.{Operation}
use Rattle.painter.specs.Scene.{Scene}
use Rattle.overlays.specs.declared.Window.{Window}

-- the two maps that are answered, if the checks let everything pass
abbrev pub Maps : ℕ → List ℕ → ℕ → List ℕ → Result (Map × Map) Refusal → Type 0
Maps n a m b (Ok p) = Of n a p.0 × Of m b p.1
Maps n a m b (Err r) = Unit {0}

-- the window's first cell in each map, at biased rows and columns
abbrev pub scene_of : Operation → ℕ → ℕ → Shift → Window → Scene
scene_of o n m s w = record {
  operation = o;
  n = n;
  m = m;
  ay = biased w.wy;
  ax = biased w.wx;
  by = biased (w.wy -ℤ s.dy);
  bx = biased (w.wx -ℤ s.dx);
}
