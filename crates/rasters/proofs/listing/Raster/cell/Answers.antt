-- `rasters::Raster::cell` meets its contract: the cell stands in its row, as many places on as its column says.
use Rattle.rasters.proofs.listing.Raster.cell.Goals.{After-side}
use Rattle.std.proofs.Common.{sym, ap, arith, ℕ, ◌+◌, ◌*◌, ◌^◌, ◌<◌, ◌≤◌}
use Rattle.std.proofs.Math.Path.{◌∙◌}
use Rattle.std.proofs.Math.Nat.{pow-le-pow_right}
use Rattle.std.proofs.Math.ListN.{get_or}
use Rattle.rasters.specs.Laws.Pixel.{place_lt, pixel-at, pixel-bits}
use Rattle.rasters.proofs.listing.Raster.cell.Goals as goal

-- the place of the cell is one of the raster's
at : (c : After-side) → let a = c.args in let n = a.self.now.n in (a.y * c.side.result + a.x < 4 ^ n) × (4 ^ n ≤ 4 ^ 15)
at c =
    let p = c.requires in
    (rw c.side.ensures.is (place_lt _ _ _ p.row p.column), pow-le-pow_right (omega arith) c.args.self.now.rastered.size)

pub bounds-self-i : goal.bounds-self-i
bounds-self-i c = omega (arith, at (goal.at.bounds-self-i c).After-side, c.args.self.now.rastered.whole)

pub returns : goal.returns
returns c =
    let a = c.args in
    let r = a.self.now in
    let b = pixel-bits r.n a.y a.x r.rastered.size c.requires in
    ap (λ (w : ℕ). get_or r.cells.now (a.y * w + a.x) 0) c.side.ensures.is
    ∙ sym (pixel-at r.n r.cells.now a.y a.x (omega arith) (omega arith))
