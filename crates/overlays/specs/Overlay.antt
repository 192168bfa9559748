-- Window, intersection, union and difference.
use Rattle.std.specs.Prelude.{List, ℕ, ltb, ℤ, pos, ◌+ℤ◌, ◌-ℤ◌}
use Rattle.refusal.specs.Rules as rule
use Rattle.refusal.specs.Answer.{refuse_if}
use Rattle.refusal.specs.Judged.{refuse_wrong}
use Rattle.morton.specs.Code.{row_of, column_of}
use Rattle.tiling.specs.Map.{limit, colour_in}
use Rattle.tiling.specs.Check.{checked}
use Rattle.shortest.specs.Shortest.{shortest}
use Rattle.shortest.specs.Outcome.{Outcome, fitting}
use Rattle.place.specs.Placing.{far}
use Rattle.place.specs.declared.Shift.{Shift}
use Rattle.painter.specs.Operation.{combine}
use Rattle.painter.specs.declared.operations.Operation.{Operation}
use Rattle.overlays.specs.declared.Window.{Window}
use Rattle.overlays.specs.declared.Frame.{Frame}
use Rattle.overlays.specs.declared.Frame.TheVariants.{OfFirst, At}

-- where no window is named, it is the first map's own square
abbrev pub window_of : ℕ → Frame → Window
window_of n OfFirst = record { wy = pos 0; wx = pos 0; size = n }
window_of n (At w) = w

-- the result's cell (y, x): the first map at (wy + y, wx + x), and the second at (wy + y - dy, wx + x - dx)
abbrev pub window_cell : ℕ → List ℕ → Window → ℕ → ℕ → ℕ
window_cell n a w y x = colour_in n a (w.wy +ℤ pos y) (w.wx +ℤ pos x)

abbrev pub overlay_cell : Operation → ℕ → List ℕ → ℕ → List ℕ → Shift → Window → ℕ → ℕ → ℕ
overlay_cell o n a m b s w y x =
    combine o (window_cell n a w y x) (colour_in m b (w.wy +ℤ pos y -ℤ s.dy) (w.wx +ℤ pos x -ℤ s.dx))

-- cells by row and column, as a picture over codes
abbrev pub by_code : (ℕ → ℕ → ℕ) → ℕ → ℕ
by_code g k = g (row_of k) (column_of k)

-- ---- the checks, each before what comes after

-- 1: a size is above the limit
abbrev pub sizes : ℕ → ℕ → ℕ → Outcome → Outcome
sizes n m w after = refuse_if (ltb limit n) rule.size 0 (refuse_if (ltb limit m) rule.size 1 (refuse_if (ltb limit w) rule.size 2 after))

-- 2: an offset or origin is too far
abbrev pub offsets : ℤ → ℤ → ℤ → ℤ → Outcome → Outcome
offsets dy dx wy wx after =
    refuse_if (far dy) rule.offset 0 (refuse_if (far dx) rule.offset 1 (refuse_if (far wy) rule.offset 2 (refuse_if (far wx) rule.offset 3 after)))

-- 3, 4: a list is not well formed
abbrev pub lists : ℕ → List ℕ → ℕ → List ℕ → Outcome → Outcome
lists n a m b after = refuse_wrong rule.first_list (checked n a) (refuse_wrong rule.second_list (checked m b) after)

-- 1, 2, 3, 4
abbrev pub judged : ℕ → List ℕ → ℕ → List ℕ → Shift → Window → Outcome → Outcome
judged n a m b s w after = sizes n m w.size (offsets s.dy s.dx w.wy w.wx (lists n a m b after))

-- ---- the calls

-- two maps: 1, 2, 3, 4, 5
unfoldable pub overlaid : Operation → ℕ → List ℕ → ℕ → List ℕ → Shift → Frame → ℕ → Outcome
overlaid o n a m b s f space =
    judged n a m b s (window_of n f)
    (fitting (shortest (by_code (overlay_cell o n a m b s (window_of n f))) (window_of n f).size 0) space)

-- one window: 1, 2, 3, 5
unfoldable pub windowed : ℕ → List ℕ → Window → ℕ → Outcome
windowed n a w space =
    refuse_if (ltb limit n) rule.size 0
    (refuse_if (ltb limit w.size) rule.size 2
    (refuse_if (far w.wy) rule.offset 2
    (refuse_if (far w.wx) rule.offset 3
    (refuse_wrong rule.first_list (checked n a)
    (fitting (shortest (by_code (window_cell n a w)) w.size 0) space)))))
