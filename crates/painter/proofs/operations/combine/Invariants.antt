-- `painter::combine` meets its contract. The loop keeps: the cells before `j` are put together, and those from it on are as they were.
use Rattle.std.proofs.Math.Path.{◌≡◌}
use Rattle.std.proofs.Common.{ℕ, ◌<◌, ◌≤◌}
use Rattle.std.proofs.Math.ListN.{get_or}
use Rattle.painter.specs.Operation.{combine}
use Rattle.painter.proofs.operations.combine.Given as goal

abbrev pub invariant-loop-j : goal.invariant-loop-j
invariant-loop-j l =
    ((i : ℕ) → i < l.j → get_or l.first i 0 ≡ combine l.operation (get_or l.initial.first i 0) (get_or l.second i 0))
    × ((i : ℕ) → l.j ≤ i → get_or l.first i 0 ≡ get_or l.initial.first i 0)
