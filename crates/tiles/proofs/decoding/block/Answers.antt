-- `tiles::block` meets its contract: an aligned block lies wholly beyond the map or wholly within it, and there its codes follow one another.
use Rattle.tiles.proofs.decoding.block.Goals.{Else-beyond}
use Rattle.std.proofs.Math.Path.{◌∙◌}
use Rattle.std.proofs.Common.{sym, arith}
use Rattle.probe.specs.Biased.{cell_about}
use Rattle.tiles.specs.Laws.Codes.{Inside, inside, inside-codes}
use Rattle.tiles.specs.Laws.Tiles.{beyond_stored, inside_stored, block_tile}
use Rattle.tiles.proofs.decoding.block.Goals as goal

pub returns-then-beyond : goal.returns-then-beyond
returns-then-beyond c =
    let a = c.args in
    let m = a.chart.now.map in
    block_tile (cell_about m.n m.list.now) a.row a.column (beyond_stored m.n m.list.now a.row a.column 0 (sym c.beyond.ensures ∙ c.if-beyond.true) c.store.ensures)

-- past the test the block lies within the map
lies : (c : Else-beyond) → let a = c.args in Inside a.chart.now.map.n a.row a.column
lies c = inside _ _ _ c.requires.0 (sym c.beyond.ensures ∙ c.if-beyond.false)

pub decode-requires : goal.decode-requires
decode-requires c = record { inside = rw c.code_of-code.ensures (inside-codes _ c.args.chart.now.map.list.now _ _ c.args.chart.now.map.is.size c.requires.0 (lies (goal.at.decode-requires c).Else-beyond)); room = omega (arith, c.requires.1); few = omega (arith, c.requires.1) }

pub returns : goal.returns
returns c =
    let a = c.args in
    let m = a.chart.now.map in
    block_tile (cell_about m.n m.list.now) a.row a.column (inside_stored m.n m.list.now a.row a.column 0 m.is.size c.requires.0 (lies (goal.at.returns c).Else-beyond) _ c.code_of-code.ensures c.decode.ensures)
