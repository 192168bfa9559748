-- `shortest::joined` meets its contract: the four merge, or their leaves are counted.
use Rattle.std.proofs.Common.{sym, arith}
use Rattle.std.proofs.Math.Path.{◌∙◌}
use Rattle.shortest.specs.Coded.{number_of}
use Rattle.shortest.specs.Laws.Part.{joined_one, joined_many}
use Rattle.shortest.proofs.joined.Goals as goal

pub returns-then-merge : goal.returns-then-merge
returns-then-merge c = sym (joined_one _ _ _ _ (sym c.merge.ensures ∙ c.if-merge.true))

pub returns : goal.returns
returns c =
    let p = c.args.parts in
    omega (arith, joined_many (number_of p.nw) (number_of p.ne) (number_of p.sw) (number_of p.se) (sym c.merge.ensures ∙ c.if-merge.false))
