-- `shortest::leaves` meets its contract: the whole picture is a block.
use Rattle.std.proofs.Math.Path.{◌∙◌}
use Rattle.shortest.specs.Laws.Outcome.{whole-size}
use Rattle.shortest.proofs.lists.leaves.Goals as goal

pub returns : goal.returns
returns g c =
    let a = c.args in
    let m = g.P.Picture in
    let lies = c.requires.0 in
    c.size.ensures ∙ whole-size (m.colour_at a.picture.now) (g.met.P.Picture.coloured a.picture.now a.whole lies) (m.level_of a.whole) (g.met.P.Picture.fits a.picture.now a.whole lies).0 _ (rw c.requires.1 at c.count.ensures)
