-- `shortest::finish` meets its contract: nothing is stored if the four merge (the law that the function's attribute names), and else they
-- are settled, for which there is room.
use Rattle.std.proofs.Common.{sym, rules, arith, ◌≤◌, ◌-◌}
use Rattle.std.proofs.Math.Path.{◌∙◌}
use Rattle.tiling.specs.Leaf.{colours}
use Rattle.shortest.specs.Coded.{number_of}
use Rattle.shortest.specs.Part.{joined}
use Rattle.shortest.specs.Laws.Part.{joined-sizes}
use Rattle.shortest.specs.Laws.Written.{finished_many}
use Rattle.shortest.proofs.finish.Goals as goal

pub settle-requires : goal.settle-requires
settle-requires c =
    let a = c.args in
    let p = a.parts in
    let m : colours ≤ number_of c.joined-part.result = search rules in
    let h : colours ≤ joined (number_of p.nw) (number_of p.ne) (number_of p.sw) (number_of p.se) = omega (arith, m, c.joined-part.ensures) in
    let r = c.requires.1 in
    (c.requires.0, record { codes = r.codes; level = r.level; room = omega (arith, joined-sizes (number_of p.nw) (number_of p.ne) (number_of p.sw) (number_of p.se) h, r.room h) })

pub returns : goal.returns
returns c =
    let a = c.args in
    let p = a.parts in
    let m : colours ≤ number_of c.joined-part.result = search rules in
    record {
      part = c.joined-part.ensures;
      left = c.settle.ensures ∙ sym (finished_many a.out.now a.at (number_of p.nw) (number_of p.ne) (number_of p.sw) (number_of p.se) a.block.code (a.block.level - 1) (omega (arith, m, c.joined-part.ensures)));
    }
