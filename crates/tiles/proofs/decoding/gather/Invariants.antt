-- `tiles::gather` meets its contract. The loop keeps: the cells before `j` are taken.
use Rattle.std.proofs.Math.Path.{◌≡◌}
use Rattle.std.proofs.Common.{ℕ, ◌<◌}
use Rattle.std.proofs.Math.ListN.{get_or}
use Rattle.tiles.proofs.decoding.gather.Given as goal

abbrev pub invariant-loop-j : goal.invariant-loop-j
invariant-loop-j l = (i : ℕ) → i < l.j → get_or l.cells i 0 ≡ get_or l.from (get_or l.places i 0) 0
