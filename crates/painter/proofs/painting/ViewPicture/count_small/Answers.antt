-- `count_small` of `painter::View` meets its contract: the tile shows what the picture is over the block.
use Rattle.std.proofs.Math.Path.{◌∙◌}
use Rattle.painter.specs.Laws.Views.{tile_part}
use Rattle.painter.proofs.painting.ViewPicture.count_small.Goals as goal

pub returns : goal.returns
returns c =
    let s = c.whole.ensures in
    let t = c.tile_over-tile.ensures in
    tile_part c.args.self.now c.args.glance.block c.requires.1.level_is _ t.1 _ _ (s.0 ∙ t.0) s.1 _ c.count.ensures
