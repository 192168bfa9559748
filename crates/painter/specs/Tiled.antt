-- Blocks of a scene that are painted by a tile, and what that asks.
use Rattle.std.specs.Prelude.{◌≡◌, List, ℕ, ◌<◌, get_or}
use Rattle.probe.specs.declared.seen.Seen.{Seen}
use Rattle.tiles.specs.Decoding.{Serves}
use Rattle.painter.specs.Operation.{combine}
use Rattle.painter.specs.declared.operations.Operation.{Operation}
use Rattle.painter.specs.Scene.{Scene}

-- two tiles put together, cell by cell
pub record Combined (operation : Operation) (first second after : List ℕ) : Type 0 where
  pub each : (j : ℕ) → j < 256 → get_or after j 0 ≡ combine operation (get_or first j 0) (get_or second j 0)

-- the level is a tile's, and each map is known over the block or at least as large
pub record Tiled (s : Scene) (ka kb : Seen) (level : ℕ) : Type 0 where
  pub level_is : level ≡ 4
  pub first_large : Serves s.n ka
  pub second_large : Serves s.m kb
