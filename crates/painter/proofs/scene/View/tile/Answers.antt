-- `painter::View::tile` meets its contract: a tile of each map, put together cell by cell.
use Rattle.painter.specs.View.{scene_of, first_of, second_of}
use Rattle.painter.specs.Laws.Tiles.{scene_tile}
use Rattle.painter.proofs.scene.View.tile.Goals as goal

pub returns : goal.returns
returns c =
    let v = c.args.self.now in
    let b = c.args.glance.block in
    scene_tile (scene_of v) (first_of v) (second_of v) b.row b.column _ _ _ c.tile.ensures c.tile-2.ensures c.combine.ensures
