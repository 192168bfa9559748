-- `morton::Spot::quarters` meets its contract: a block that lies within the largest square is of no level above it.
use Rattle.std.proofs.Common.{arith}
use Rattle.morton.specs.Power.{highest}
use Rattle.morton.specs.Laws.Power.{four_le}
use Rattle.morton.proofs.block.Spot.quarters.Goals as goal

pub area-area-requires : goal.area-area-requires
area-area-requires c = omega (arith, four_le c.args.self.level highest (omega (arith, c.requires.1)))
