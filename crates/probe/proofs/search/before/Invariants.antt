-- `probe::search::before` meets its contract. The loop keeps: the entry at `hi`, or the list's end, lies past the code. Its step is never
-- 0, so that `hi` falls at each turn.
use Rattle.std.proofs.Common.{◌<◌, ◌≤◌, length}
use Rattle.tiling.specs.WellFormed.{end_before}
use Rattle.probe.proofs.search.before.Given as goal

abbrev pub invariant-loop-step : goal.invariant-loop-step
invariant-loop-step l = (0 < l.hi) × (l.hi ≤ length l.list) × (0 < l.step) × (l.code < end_before l.list l.hi)

abbrev pub decreases-loop-step : goal.decreases-loop-step
decreases-loop-step l = l.hi
