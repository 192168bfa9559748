-- `morton::area` meets its contract: 1 shifted by twice the level is 4 to the level.
use Rattle.std.proofs.Math.Path.{◌∙◌}
use Rattle.std.proofs.Common.{◌*◌, arith}
use Rattle.morton.specs.Laws.Power.{power, shifted, two_four}
use Rattle.morton.proofs.area.Goals as goal

pub returns : goal.returns
returns c =
    let L = c.args.level in
    power 4 L _ (omega arith) c.requires (shifted (2 * L) (omega arith) ∙ two_four L)
