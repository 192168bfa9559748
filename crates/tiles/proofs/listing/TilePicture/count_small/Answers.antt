-- `count_small` of `tiles::Tile` meets its contract: the four cells are the quarters of their block.
use Rattle.std.proofs.Math.Path.{◌∙◌}
use Rattle.shortest.proofs.Cells.{cells_fit, cells_part}
use Rattle.tiles.specs.Listing.{spots}
use Rattle.tiles.specs.Laws.Listing.{coloured}
use Rattle.tiles.proofs.listing.TilePicture.count_small.Goals as goal

pub joined-requires : goal.joined-requires
joined-requires c =
    let q = c.four.ensures in
    let s = c.args.self.now in
    cells_fit (spots s.cells.now s.first) (coloured _ _ s.bytes) c.args.block.code q.nw q.ne q.sw q.se

pub returns : goal.returns
returns c =
    let q = c.four.ensures in
    let s = c.args.self.now in
    c.joined.ensures ∙ cells_part (spots s.cells.now s.first) (coloured _ _ s.bytes) c.args.block.code q.nw q.ne q.sw q.se c.requires.0
