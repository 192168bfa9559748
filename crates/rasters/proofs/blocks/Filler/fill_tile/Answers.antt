-- `rasters::Filler::fill_tile` meets its contract: the codes of a tile follow one another, and in rows they are its cells.
use Rattle.std.proofs.Common.{arith, length}
use Rattle.rasters.specs.Laws.Blocks.{tile_codes, tile_rows}
use Rattle.rasters.proofs.blocks.Filler.fill_tile.Goals as goal

pub decode-requires : goal.decode-requires
decode-requires c =
    let p = c.requires in
    record { inside = tile_codes _ _ c.args.block p.0 p.1; room = omega arith; few = omega arith }

pub returns : goal.returns
returns c =
    let m = c.args.self.now.map in
    tile_rows m.n m.list.now (length c.args.cells.now) c.args.block c.requires.0 c.requires.1 c.decode.ensures c.put_tile.ensures
