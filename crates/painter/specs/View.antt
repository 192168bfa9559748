-- What a view shows, and what its functions ask and tell of a block.
use Rattle.std.specs.Prelude.{List, ℕ}
use Rattle.morton.specs.declared.block.Block.{Block}
use Rattle.probe.specs.declared.seen.Seen.{Seen}
use Rattle.probe.specs.declared.square.Square.{Square}
use Rattle.painter.specs.Scene.{Scene, cell_of, picture, Knows, Told}
use Rattle.painter.specs.Tiled.{Tiled}
use Rattle.painter.specs.declared.scene.Known.{Known}
use Rattle.painter.specs.declared.scene.Glance.{Glance}
use Rattle.painter.specs.declared.scene.View.{View}

-- its scene, and the lists of its two maps
abbrev pub scene_of : View → Scene
scene_of v = record { operation = v.operation; n = v.first.chart.map.n; m = v.second.chart.map.n; ay = v.first.row; ax = v.first.column; by = v.second.row; bx = v.second.column }

abbrev pub first_of : View → List ℕ
first_of v = v.first.chart.map.list.now

abbrev pub second_of : View → List ℕ
second_of v = v.second.chart.map.list.now

abbrev pub cell_in : View → ℕ → ℕ → ℕ
cell_in v = cell_of (scene_of v) (first_of v) (second_of v)

abbrev pub picture_in : View → ℕ → ℕ
picture_in v = picture (scene_of v) (first_of v) (second_of v)

-- what is known of each map over the square is right, and what is told of it
abbrev pub KnowsAt : View → Known → Square → Type 0
KnowsAt v k q = Knows (scene_of v) (first_of v) (second_of v) k.first k.second q.row q.column q.level

abbrev pub ToldAt : View → Square → Seen → Known → Type 0
ToldAt v q all k = Told (scene_of v) (first_of v) (second_of v) q.row q.column q.level all k.first k.second

-- the same over a block
abbrev pub KnowsOver : View → Glance → Type 0
KnowsOver v g = Knows (scene_of v) (first_of v) (second_of v) g.known.first g.known.second g.block.row g.block.column g.block.level

abbrev pub ToldOver : View → Block → Seen → Known → Type 0
ToldOver v b all k = Told (scene_of v) (first_of v) (second_of v) b.row b.column b.level all k.first k.second

abbrev pub TiledOver : View → Glance → Type 0
TiledOver v g = Tiled (scene_of v) g.known.first g.known.second g.block.level
