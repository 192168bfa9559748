-- `rasters::square` meets its contract. The loop keeps: the rows before it are filled.
use Rattle.std.proofs.Common.{◌^◌}
use Rattle.rasters.specs.Blocks.{Rows, alone}
use Rattle.rasters.proofs.blocks.square.Given as goal

abbrev pub invariant-loop-row : goal.invariant-loop-row
invariant-loop-row l = let b = l.fn.block in Rows l.n (alone l.colour) b.row b.column l.row (2 ^ b.level) l.initial.cells l.cells
