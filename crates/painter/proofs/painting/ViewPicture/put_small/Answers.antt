-- `put_small` of `painter::View` meets its contract: the tile shows what the picture is over the block.
use Rattle.std.proofs.Math.Path.{◌∙◌}
use Rattle.painter.specs.Laws.Views.{tile_part, tile_placed, tile_wrote}
use Rattle.painter.proofs.painting.ViewPicture.put_small.Goals as goal

pub put-requires : goal.put-requires
put-requires c =
    let s = c.whole.ensures in
    let t = c.tile_over-tile.ensures in
    (s.2, tile_placed c.args.self.now c.args.glance.block c.requires.0.1.level_is _ t.1 _ _ (s.0 ∙ t.0) s.1 _ _ c.requires.1)

pub returns : goal.returns
returns c =
    let s = c.whole.ensures in
    let t = c.tile_over-tile.ensures in
    let v = c.args.self.now in
    let b = c.args.glance.block in
    let l = c.requires.0.1.level_is in
    record {
      part = tile_part v b l _ t.1 _ _ (s.0 ∙ t.0) s.1 _ c.put.ensures.part;
      left = tile_wrote v b l _ t.1 _ _ (s.0 ∙ t.0) s.1 _ _ _ c.put.ensures.left;
    }
