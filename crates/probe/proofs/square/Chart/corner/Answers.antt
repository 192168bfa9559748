-- `probe::Chart::corner` meets its contract: a leaf at least as large as the aligned square of its cell covers it.
use Rattle.std.proofs.Math.Path.{◌∙◌}
use Rattle.std.proofs.Common.{sym, leb-true}
use Rattle.probe.specs.Laws.Leaf.{cell_spans, leaf_covers}
use Rattle.probe.proofs.square.Chart.corner.Goals as goal

pub find-requires : goal.find-requires
find-requires c = rw c.code_of.ensures (cell_spans _ _ _ _ c.args.self.now.map.is c.requires)

pub returns : goal.returns
returns c =
    λ e.
    leaf_covers _ _ _ _ c.args.self.now.map.is c.requires _ (rw c.code_of.ensures at c.find.ensures) _ _
    (sym c.colour_of.ensures ∙ c.if-colour_of-colour.false) (rw c.level_of.ensures at (leb-true c.args.at.level c.level_of.result e))
