-- `rasters::Filler::put_tile` meets its contract. The loop keeps: the rows before it are stored.
use Rattle.rasters.specs.Blocks.{Rows, tile_cell}
use Rattle.rasters.proofs.blocks.Filler.put_tile.Given as goal

abbrev pub invariant-loop-row : goal.invariant-loop-row
invariant-loop-row l = let b = l.fn.block in Rows l.self.map.n (tile_cell l.tile b.row b.column) b.row b.column l.row 16 l.initial.cells l.cells
