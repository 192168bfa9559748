-- `painter::View::shown_over` meets its contract: a block of a window is a square of it.
use Rattle.std.proofs.Common.{arith}
use Rattle.morton.specs.Laws.Block.{block_level}
use Rattle.painter.proofs.scene.View.shown_over.Goals as goal

pub shown-requires : goal.shown-requires
shown-requires c =
    let b = c.args.glance.block.is in
    rw c.from.ensures (record { level_in = block_level _ _ _ _ b; row_lt = omega (arith, b.bottom); column_lt = omega (arith, b.right) }, c.requires)
