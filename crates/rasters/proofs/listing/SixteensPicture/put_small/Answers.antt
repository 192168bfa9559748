-- `put_small` of `rasters::Sixteens` meets its contract: a block that is not of four cells is of sixteen, and is walked by its quarters.
use Rattle.std.proofs.Common.{arith}
use Rattle.rasters.specs.Laws.Pixel.{divisible}
use Rattle.rasters.proofs.listing.SixteensPicture.put_small.Goals as goal

pub put_step-requires : goal.put_step-requires
put_step-requires c =
    let r = c.args.self.now.raster in
    let p = c.requires.0 in
    let e = c.sixteen.ensures in
    rw (e.0, e.1, e.2, e.3) ((omega (arith, p.0, p.1, c.if-block-eq1.false), p.2), divisible r.n r.cells.now r.bytes c.args.block p.0, c.requires.1)
