-- `morton::gather` meets its contract, by recursion over the digits: the lowest, and those above it gathered. It ends since there are
-- fewer digits at each call.
use Rattle.std.proofs.Common.{ℕ, ◌≤◌, ◌-◌, ◌/◌, ◌^◌, arith}
use Rattle.std.proofs.Math.Pow.{pow_mono}
use Rattle.morton.specs.Code.{bits}
use Rattle.morton.specs.Laws.Cell.{gathered-lt, gathered_none, gathered_step}
use Rattle.morton.proofs.+gather.Goals as goal

-- what is gathered of the digits above is small
small : (d : ℕ) → d ≤ bits → 2 ^ (d - 1) ≤ 2 ^ 16
small d h = pow_mono {i = d - 1} {j = 16} (omega arith)

pub returns-then-digits-eq0 : goal.returns-then-digits-eq0
returns-then-digits-eq0 t c = gathered_none _ _ c.if-digits-eq0.true

pub overflow_mul-result : goal.overflow_mul-result
overflow_mul-result t c =
    let a = c.args in
    omega (arith, c.gather.ensures, gathered-lt (a.digits - 1) (a.k / 4), small a.digits c.requires)

pub overflow_add-result : goal.overflow_add-result
overflow_add-result t c =
    let a = c.args in
    omega (arith, c.gather.ensures, gathered-lt (a.digits - 1) (a.k / 4), small a.digits c.requires)

pub returns : goal.returns
returns t c =
    let a = c.args in
    rw c.gather.ensures (gathered_step a.digits a.k c.if-digits-eq0.false)
