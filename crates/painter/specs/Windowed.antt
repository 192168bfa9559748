-- Squares that are asked for.
use Rattle.std.specs.Prelude.{◌^◌, ◌<◌, ◌≤◌}
use Rattle.morton.specs.Power.{highest}
use Rattle.probe.specs.declared.square.Square.{Square}

-- a square that some window may hold
pub record Windowed (q : Square) : Type 0 where
  pub level_in : q.level ≤ highest
  pub row_lt : q.row < 2 ^ highest
  pub column_lt : q.column < 2 ^ highest
