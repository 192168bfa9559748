-- `painter::View::tile_over` meets its contract: the tile shows what the picture is over the block.
use Rattle.std.proofs.Common.{refl, rules}
use Rattle.painter.specs.Laws.Views.{tile_small, bytes, same}
use Rattle.painter.proofs.scene.View.tile_over.Goals as goal

pub invariant_of-result : goal.invariant_of-result
invariant_of-result c =
    let v = c.args.self.now in
    let b = c.args.glance.block in
    let l = c.requires.1.level_is in
    record { small = tile_small v b l _ c.tile.ensures; bytes = bytes v b l _ c.tile.ensures (search rules) }

pub returns : goal.returns
returns c = (refl, same c.args.self.now c.args.glance.block c.requires.1.level_is _ c.tile.ensures)
