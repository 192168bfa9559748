-- `probe::Chart::across` meets its contract: the aligned squares of the corners that count cover the square, by the laws of the four
-- corners, which the function's attribute names.
use Rattle.std.proofs.Common.{arith}
use Rattle.probe.specs.Laws.Leaf.{level_le}
use Rattle.probe.proofs.square.Chart.across.Goals as goal

pub side-side-requires : goal.side-side-requires
side-side-requires c = omega (arith, level_le _ _ _ _ c.requires.within, c.args.self.now.map.is.size)
