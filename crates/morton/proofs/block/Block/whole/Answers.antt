-- `morton::Block::whole` meets its contract: the whole square begins at the first cell.
use Rattle.morton.specs.Laws.Block.{whole}
use Rattle.morton.proofs.block.Block.whole.Goals as goal

pub invariant_of-result : goal.invariant_of-result
invariant_of-result c = record { is = whole _ c.requires }
