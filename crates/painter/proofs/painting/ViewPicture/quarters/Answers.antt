-- `quarters` of `painter::View` meets its contract: what is known over a block is known over its quarters.
use Rattle.painter.proofs.painting.ViewPicture.quarters.Goals.{After-quarters}
use Rattle.std.proofs.Common.{arith}
use Rattle.painter.specs.View.{scene_of, first_of, second_of}
use Rattle.painter.specs.Laws.Blocks.{quarter_knows}
use Rattle.painter.proofs.painting.ViewPicture.quarters.Goals as goal

pub returns : goal.returns
returns c =
    let v = c.args.self.now in
    let b = c.args.glance.block in
    let q = c.quarters.ensures in
    let r = c.requires in
    record {
      nw = (quarter_knows (scene_of v) (first_of v) (second_of v) _ _ b.code b.row b.column b.level 0 0 _ _ _ _ r.0 (omega arith) (omega arith) q.nw r.1, record { code = omega (arith, q.nw.code); level = q.nw.level });
      ne = (quarter_knows (scene_of v) (first_of v) (second_of v) _ _ b.code b.row b.column b.level 0 1 _ _ _ _ r.0 (omega arith) (omega arith) q.ne r.1, record { code = omega (arith, q.ne.code); level = q.ne.level });
      sw = (quarter_knows (scene_of v) (first_of v) (second_of v) _ _ b.code b.row b.column b.level 1 0 _ _ _ _ r.0 (omega arith) (omega arith) q.sw r.1, record { code = omega (arith, q.sw.code); level = q.sw.level });
      se = (quarter_knows (scene_of v) (first_of v) (second_of v) _ _ b.code b.row b.column b.level 1 1 _ _ _ _ r.0 (omega arith) (omega arith) q.se r.1, record { code = omega (arith, q.se.code); level = q.se.level });
    }
