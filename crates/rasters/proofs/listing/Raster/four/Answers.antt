-- `rasters::Raster::four` meets its contract: the four cells follow one another in the order of their codes.
use Rattle.std.proofs.Common.{ap}
use Rattle.std.proofs.Math.Path.{◌∙◌}
use Rattle.rasters.specs.Raster.{pixel}
use Rattle.rasters.specs.Laws.Pixel.{four_codes}
use Rattle.rasters.proofs.listing.Raster.four.Goals as goal

pub returns : goal.returns
returns c =
    let r = c.args.self.now in
    let p = c.requires in
    let f = pixel r.n r.cells.now in
    let e = four_codes c.args.block p.0 in
    record {
      nw = c.cell.ensures ∙ ap f e.0;
      ne = c.cell-2.ensures ∙ ap f e.1;
      sw = c.cell-3.ensures ∙ ap f e.2;
      se = c.cell-4.ensures ∙ ap f e.3;
    }
