-- `tiles::decode` meets its contract. The loop keeps: the cells before `place` have their colours, and the next lies in the leaf at `at`.
-- A turn adds what the leaf has of the 256 codes, and where it ends the next leaf begins.
use Rattle.std.proofs.Math.Path.{◌≡◌}
use Rattle.std.proofs.Common.{◌+◌, ◌-◌, ◌<◌, ◌≤◌, length}
use Rattle.probe.specs.Search.{Found}
use Rattle.tiles.specs.Tile.{Stored, codes}
use Rattle.tiles.proofs.decoding.decode.Given as goal

abbrev pub invariant-loop-place : goal.invariant-loop-place
invariant-loop-place l = (l.from ≤ l.place) × (l.place ≤ l.from + 256) × (length l.cells ≡ length l.initial.cells) × Stored l.initial.cells l.from l.place (codes l.map.list.now l.code l.from) l.cells × (l.place < l.from + 256 → Found l.map.list.now (l.code + (l.place - l.from)) l.at)

abbrev pub decreases-loop-place : goal.decreases-loop-place
decreases-loop-place l = l.from + 256 - l.place
