-- `painter::Layer::ask` meets its contract: the square, as far on as the window lies in the map.
use Rattle.std.proofs.Common.{arith}
use Rattle.painter.proofs.layer.Layer.ask.Goals as goal

pub ask-requires : goal.ask-requires
ask-requires c =
    let q = c.requires.0 in
    let s = c.args.self.now.near in
    (record { level_in = q.level_in; row_lt = omega (arith, s.0, q.row_lt); column_lt = omega (arith, s.1, q.column_lt) }, c.requires.1)
