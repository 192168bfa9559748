-- `shortest::list` meets its contract: a list that is counted fits by the test, any other because 4 ^ n words hold every list.
use Rattle.shortest.proofs.lists.list.Goals.{then-out-area+else-out-leaves, else-out-area}
use Rattle.std.proofs.Common.{◌≡◌, ◌≤◌, ◌^◌, length, arith}
use Rattle.shortest.specs.Shortest.{shortest}
use Rattle.shortest.specs.Laws.Outcome.{always_fits}
use Rattle.shortest.proofs.lists.list.Goals as goal

pub write-requires : goal.write-requires
write-requires g c =
    let a = c.args in
    let m = g.P.Picture in
    let r = c.requires in
    let f = m.colour_at a.picture.now in
    let n = m.level_of a.whole in
    let area : c.area.result ≡ 4 ^ n = rw c.spot.ensures.1 at c.area.ensures.is in
    let fits : length (shortest f n 0) ≤ length a.out.now = elim c.if-out-area.branch [
      | then-out-area+else-out-leaves w ↦ omega arith
      | else-out-area w ↦ always_fits f (g.met.P.Picture.coloured a.picture.now a.whole r.0) n (g.met.P.Picture.fits a.picture.now a.whole r.0).0 _ (omega (arith, area))
    ] in
    (r.0, r.1, fits)
