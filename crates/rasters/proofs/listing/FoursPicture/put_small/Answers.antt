-- `put_small` of `rasters::Fours` meets its contract: the four cells write nothing by themselves, and `finish` stores them unless they merge.
use Rattle.std.proofs.Math.Path.{◌∙◌}
use Rattle.shortest.proofs.Cells.{cells_part, cells_finish, cells_wrote}
use Rattle.rasters.specs.Raster.{pixel}
use Rattle.rasters.specs.Laws.Pixel.{coloured, four_fit}
use Rattle.rasters.proofs.listing.FoursPicture.put_small.Goals as goal

pub finish-requires : goal.finish-requires
finish-requires c =
    let q = c.four.ensures in
    let r = c.args.self.now.raster in
    let b = c.args.block in
    let one = c.requires.0.0 in
    rw c.from.ensures (cells_finish (pixel r.n r.cells.now) (coloured r.n _ r.bytes) b.code q.nw q.ne q.sw q.se one (four_fit b one) c.requires.1)

pub returns : goal.returns
returns c =
    let q = c.four.ensures in
    let r = c.args.self.now.raster in
    let b = c.args.block in
    let one = c.requires.0.0 in
    record {
      part = c.finish.ensures.part ∙ cells_part (pixel r.n r.cells.now) (coloured r.n _ r.bytes) b.code q.nw q.ne q.sw q.se one;
      left = rw c.from.ensures at c.finish.ensures.left ∙ cells_wrote (pixel r.n r.cells.now) (coloured r.n _ r.bytes) b.code q.nw q.ne q.sw q.se one (four_fit b one) c.requires.1;
    }
