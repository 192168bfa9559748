-- `probe::search::after` meets its contract. The loop keeps: the entry at `lo` begins at or before the code. Its step is never 0, so that
-- less of the list is left at each turn.
use Rattle.std.proofs.Common.{◌-◌, ◌<◌, ◌≤◌, length}
use Rattle.tiling.specs.WellFormed.{end_before}
use Rattle.probe.proofs.search.after.Given as goal

abbrev pub invariant-loop-step : goal.invariant-loop-step
invariant-loop-step l = (l.lo < length l.list) × (0 < l.step) × (end_before l.list l.lo ≤ l.code)

abbrev pub decreases-loop-step : goal.decreases-loop-step
decreases-loop-step l = length l.list - l.lo
