-- `tiling::check` meets its contract. The loop keeps: the check of the list is that of what is left of it, after i entries that are
-- right and end at `end`.
use Rattle.tiling.proofs.Walk.{Walked}
use Rattle.tiling.proofs.check.Given as goal

abbrev pub invariant-loop-i : goal.invariant-loop-i
invariant-loop-i l = Walked l.n l.list l.end l.i
