-- `tiles::put_steps` meets its contract. The loop keeps: the steps before `j` are there.
use Rattle.tiles.proofs.decoding.put_steps.Goals.{After-code_of-code}
use Rattle.std.proofs.Math.Path.{◌≡◌, ◌∙◌}
use Rattle.std.proofs.Common.{ap₂, arith, ℕ, ◌+◌, ◌<◌}
use Rattle.morton.specs.Code.{code}
use Rattle.tiles.specs.Tile.{step_to}
use Rattle.tiles.specs.Laws.Codes.{step_small}
use Rattle.tiles.proofs.decoding.put_steps.Goals as goal

-- the step, which is small
step : (c : After-code_of-code) → let a = c.args in (c.code_of-code.result ≡ step_to a.row a.column c.loop-j.j) × (c.code_of-code.result < 1024)
step c =
    let e : c.code_of-code.result ≡ step_to c.args.row c.args.column c.loop-j.j = c.code_of-code.ensures ∙ ap₂ (λ (x y : ℕ). code (c.args.row + x) (c.args.column + y)) c.row_of.ensures c.column_of.ensures in
    (e, omega (arith, e, step_small c.args.row c.args.column c.loop-j.j c.requires.0 c.requires.1 (omega arith)))

pub overflow_cast-step : goal.overflow_cast-step
overflow_cast-step c = omega (arith, step c)
