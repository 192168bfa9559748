-- `rasters::put_order` meets its contract: each code is one of the tile's.
use Rattle.std.proofs.Common.{arith}
use Rattle.rasters.specs.Laws.Blocks.{order_small}
use Rattle.rasters.proofs.blocks.put_order.Goals as goal

pub overflow_cast-place : goal.overflow_cast-place
overflow_cast-place c = omega (arith, c.code_of-code.ensures, order_small c.loop-j.j (omega arith))
