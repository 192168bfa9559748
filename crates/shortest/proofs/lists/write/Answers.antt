-- `shortest::write` meets its contract: the whole picture is a block, and its leaf is stored if it is of one colour.
use Rattle.shortest.proofs.lists.write.Goals.{After-put-part}
use Rattle.std.proofs.Common.{rules}
use Rattle.std.proofs.Math.Path.{◌≡◌, ◌∙◌}
use Rattle.shortest.specs.Part.{part}
use Rattle.shortest.specs.Coded.{number_of}
use Rattle.shortest.specs.Laws.Outcome.{whole-placed, whole_fills, whole-left, whole-size}
use Rattle.shortest.proofs.lists.write.Given.{Over}
use Rattle.shortest.proofs.lists.write.Goals as goal

module _ (g : Over) where
  -- what the whole picture comes to
  whole : (c : After-put-part g) → let a = c.args in let m = g.P.Picture in number_of c.put-part.result ≡ part (m.colour_at a.picture.now) (m.level_of a.whole) 0
  whole c = rw c.requires.1 at c.put-part.ensures.part

pub put-part-requires : goal.put-part-requires
put-part-requires g c =
    let a = c.args in
    let m = g.P.Picture in
    let r = c.requires in
    (r.0, rw r.1 (whole-placed (m.colour_at a.picture.now) (g.met.P.Picture.coloured a.picture.now a.whole r.0) (m.level_of a.whole) (g.met.P.Picture.fits a.picture.now a.whole r.0).0 a.out.now r.2))

pub fill-requires : goal.fill-requires
fill-requires g c =
    let a = c.args in
    let m = g.P.Picture in
    let r = c.requires in
    search (rules, whole_fills (m.colour_at a.picture.now) (g.met.P.Picture.coloured a.picture.now a.whole r.0) (m.level_of a.whole) (g.met.P.Picture.fits a.picture.now a.whole r.0).0 a.out.now r.2 _ _ (whole g (goal.at.fill-requires g c).After-put-part) c.put-part.auto.out)

pub returns : goal.returns
returns g c =
    let a = c.args in
    let m = g.P.Picture in
    let r = c.requires in
    let f = m.colour_at a.picture.now in
    let n = m.level_of a.whole in
    let b = g.met.P.Picture.coloured a.picture.now a.whole r.0 in
    let low = (g.met.P.Picture.fits a.picture.now a.whole r.0).0 in
    let p = c.put-part in
    let e = whole g (goal.at.returns g c).After-put-part in
    record {
      counted = c.size.ensures ∙ whole-size f b n low _ e;
      left = search (rules, c.fill.ensures, whole-left f b n low a.out.now r.2 _ _ e p.auto.out (rw r.1 at p.ensures.left));
    }
