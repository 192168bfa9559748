-- `tiles::put_steps` meets its contract. The loop keeps: the steps before `j` are there.
use Rattle.std.proofs.Math.Path.{◌≡◌}
use Rattle.std.proofs.Common.{ℕ, ◌<◌}
use Rattle.std.proofs.Math.ListN.{get_or}
use Rattle.tiles.specs.Tile.{step_to}
use Rattle.tiles.proofs.decoding.put_steps.Given as goal

abbrev pub invariant-loop-j : goal.invariant-loop-j
invariant-loop-j l = (i : ℕ) → i < l.j → get_or l.steps i 0 ≡ step_to l.row l.column i
