-- `look` of `rasters::Sixteens` meets its contract: a single cell is its own part.
use Rattle.std.proofs.Math.Path.{◌∙◌}
use Rattle.rasters.specs.Laws.Pixel.{single_part}
use Rattle.rasters.proofs.listing.SixteensPicture.look.Goals as goal

pub returns-in-0 : goal.returns-in-0
returns-in-0 c = let r = c.args.self.now.raster in c.cell.ensures ∙ single_part r.n r.cells.now c.args.block c.in-0.is
