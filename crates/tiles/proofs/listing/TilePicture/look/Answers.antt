-- `look` of `tiles::Tile` meets its contract: a block of one colour comes to it.
use Rattle.std.proofs.Math.Path.{◌∙◌}
use Rattle.tiles.specs.Listing.{spots}
use Rattle.tiles.specs.Laws.Listing.{first_in, flat_part}
use Rattle.tiles.proofs.listing.TilePicture.look.Goals as goal

pub cell-requires : goal.cell-requires
cell-requires c = (c.requires.from, first_in _ _ _ c.requires)

pub returns-then-alike : goal.returns-then-alike
returns-then-alike c =
    let s = c.args.self.now in
    let b = c.args.block in
    c.cell.ensures ∙ flat_part (spots s.cells.now s.first) b.level b.code (c.alike.ensures c.if-alike.true)
