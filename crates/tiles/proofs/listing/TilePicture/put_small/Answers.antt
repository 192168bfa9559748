-- `put_small` of `tiles::Tile` meets its contract: the four cells write nothing by themselves, and `finish` stores them unless they merge.
use Rattle.std.proofs.Math.Path.{◌∙◌}
use Rattle.shortest.proofs.Cells.{cells_part, cells_finish, cells_wrote}
use Rattle.tiles.specs.Listing.{spots}
use Rattle.tiles.specs.Laws.Listing.{coloured, four_fit}
use Rattle.tiles.proofs.listing.TilePicture.put_small.Goals as goal

pub finish-requires : goal.finish-requires
finish-requires c =
    let q = c.four.ensures in
    let s = c.args.self.now in
    let b = c.requires.0 in
    cells_finish (spots s.cells.now s.first) (coloured _ _ s.bytes) c.args.block.code q.nw q.ne q.sw q.se b.0 (four_fit _ _ _ b.1 b.0) c.requires.1

pub returns : goal.returns
returns c =
    let q = c.four.ensures in
    let s = c.args.self.now in
    let b = c.requires.0 in
    record {
      part = c.finish.ensures.part ∙ cells_part (spots s.cells.now s.first) (coloured _ _ s.bytes) c.args.block.code q.nw q.ne q.sw q.se b.0;
      left = c.finish.ensures.left ∙ cells_wrote (spots s.cells.now s.first) (coloured _ _ s.bytes) c.args.block.code q.nw q.ne q.sw q.se b.0 (four_fit _ _ _ b.1 b.0) c.requires.1;
    }
