-- `probe::search::colour_in` meets its contract: the colour of the leaf in which the cell's code lies.
use Rattle.std.proofs.Math.Path.{◌∙◌}
use Rattle.std.proofs.Common.{sym, arith}
use Rattle.morton.specs.Laws.Code.{code_inside}
use Rattle.tiling.specs.Laws.Colour.{colour_inside}
use Rattle.tiling.specs.Laws.Signed.{within-lt, inside_both}
use Rattle.probe.specs.Laws.Search.{found_colour}
use Rattle.probe.proofs.search.colour_in.Goals as goal

pub find-at-requires : goal.find-at-requires
find-at-requires c =
    let m = c.args.map.now in
    let s = c.args.cell in
    let h = inside_both m.n s.row s.column c.requires in
    record {
      size = m.n;
      formed = m.is.formed;
      inside = rw c.cell_code.ensures (code_inside m.n _ _ (omega (arith, m.is.size)) (within-lt m.n s.row h.0) (within-lt m.n s.column h.1));
    }

pub returns : goal.returns
returns c =
    let m = c.args.map.now in
    let s = c.args.cell in
    c.colour_of.ensures ∙ sym (colour_inside m.n m.list.now s.row s.column c.requires
    ∙ found_colour m.n _ m.is.formed _ _ (rw c.cell_code.ensures at c.find-at.ensures))
