-- `tiles::tile` meets its contract: a colour that is known, an aligned block, or four of them from which the tile is gathered.
use Rattle.std.proofs.Common.{rules, arith}
use Rattle.probe.specs.Biased.{cell_about}
use Rattle.tiles.specs.Laws.Tiles.{own_block, first_block, last_block, small_steps, known_tile, gathered_tile}
use Rattle.tiles.proofs.decoding.tile.Goals as goal

pub returns-in-One : goal.returns-in-One
returns-in-One c = known_tile (cell_about c.args.chart.now.map.n c.args.chart.now.map.list.now) c.args.row c.args.column c.in-One.colour (rw c.in-One.is at c.requires.holds) c.store.ensures

pub block-requires : goal.block-requires
block-requires c = (own_block _ _ _ _ _ _ (rw c.in-Mixed.is at c.requires) c.if-down-right.true, search rules)

pub decode_four-requires : goal.decode_four-requires
decode_four-requires c =
    let h = rw c.in-Mixed.is at c.requires in
    (first_block _ _ _ _ _ _ h, last_block _ _ _ _ _ _ h)

pub gather-requires : goal.gather-requires
gather-requires c =
    let s = small_steps _ _ _ _ _ _ (rw c.in-Mixed.is at c.requires) in
    (search rules, λ j h. rw c.decode_four.array_long (s j (omega (arith, h, c.told-cells))))

pub returns : goal.returns
returns c = gathered_tile (cell_about c.args.chart.now.map.n c.args.chart.now.map.list.now) c.args.row c.args.column c.decode_four.ensures c.requires.stepped (λ j h. c.gather.ensures j (omega (arith, h, c.told-cells)))
