-- `rasters::Filler::walk` ends since the level falls.
use Rattle.rasters.proofs.blocks.Filler.+walk.Given as goal

abbrev pub decreases-walk : goal.decreases-walk
decreases-walk l = l.block.level
