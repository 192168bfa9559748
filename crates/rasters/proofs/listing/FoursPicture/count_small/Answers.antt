-- `count_small` of `rasters::Fours` meets its contract: the four cells are the quarters of their block.
use Rattle.std.proofs.Math.Path.{◌∙◌}
use Rattle.shortest.proofs.Cells.{cells_fit, cells_part}
use Rattle.rasters.specs.Raster.{pixel}
use Rattle.rasters.specs.Laws.Pixel.{coloured}
use Rattle.rasters.proofs.listing.FoursPicture.count_small.Goals as goal

pub joined-requires : goal.joined-requires
joined-requires c =
    let q = c.four.ensures in
    let r = c.args.self.now.raster in
    cells_fit (pixel r.n r.cells.now) (coloured _ _ r.bytes) c.args.block.code q.nw q.ne q.sw q.se

pub returns : goal.returns
returns c =
    let q = c.four.ensures in
    let r = c.args.self.now.raster in
    c.joined.ensures ∙ cells_part (pixel r.n r.cells.now) (coloured r.n _ r.bytes) c.args.block.code q.nw q.ne q.sw q.se c.requires.0
