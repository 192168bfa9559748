-- `shortest::count` meets its contract: a block is its quarters joined.
use Rattle.std.proofs.Math.Path.{◌∙◌}
use Rattle.shortest.proofs.Steps.{counted_fits, counted_part}
use Rattle.shortest.proofs.walk.+counts.Goals as goal

pub count_step-joined-requires : goal.count_step-joined-requires
count_step-joined-requires g t c =
    let q = c.quarters-quarter.ensures in
    counted_fits c.requires.1 q.nw.1 q.ne.1 q.sw.1 q.se.1 c.count-nw.ensures c.count-ne.ensures c.count-sw.ensures c.count-se.ensures

pub count_step-returns : goal.count_step-returns
count_step-returns g t c =
    let q = c.quarters-quarter.ensures in
    c.joined.ensures
    ∙ counted_part c.requires.1 q.nw.1 q.ne.1 q.sw.1 q.se.1 c.count-nw.ensures c.count-ne.ensures c.count-sw.ensures c.count-se.ensures
