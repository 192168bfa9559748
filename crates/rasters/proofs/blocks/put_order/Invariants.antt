-- `rasters::put_order` meets its contract. The loop keeps: the codes of the cells before `j` are there.
use Rattle.std.proofs.Math.Path.{◌≡◌}
use Rattle.std.proofs.Common.{ℕ, ◌<◌}
use Rattle.std.proofs.Math.ListN.{get_or}
use Rattle.rasters.specs.Blocks.{order_of}
use Rattle.rasters.proofs.blocks.put_order.Given as goal

abbrev pub invariant-loop-j : goal.invariant-loop-j
invariant-loop-j l = (i : ℕ) → i < l.j → get_or l.order i 0 ≡ order_of i
