-- `tiles::decode_four` meets its contract: the four blocks are those of a square of 1,024 cells, in the order of their codes.
use Rattle.std.proofs.Common.{rules}
use Rattle.std.proofs.lemmas.List.{places}
use Rattle.probe.specs.Biased.{cell_about}
use Rattle.tiles.specs.Laws.Tiles.{four_parts}
use Rattle.tiles.proofs.decoding.decode_four.Goals as goal

pub returns : goal.returns
returns c =
    let m = c.args.chart.now.map in
    four_parts (cell_about m.n m.list.now) c.args.row c.args.column c.args.cells.now c.block.new.cells c.block-2.new.cells c.block-3.new.cells c.block-4.new.cells
    (search rules) (search (rules, places)) (search (rules, places)) (search (rules, places)) (search (rules, places))
    c.block.ensures c.block-2.ensures c.block-3.ensures c.block-4.ensures
