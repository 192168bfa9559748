-- `morton::Spread::code_of` meets its contract: a code is two spread numbers, the row's one place higher.
use Rattle.std.proofs.Common.{arith}
use Rattle.morton.specs.Laws.Spread.{code-spread, spread-lt}
use Rattle.morton.proofs.spread.Spread.code_of.Goals as goal

pub overflow_mul-result : goal.overflow_mul-result
overflow_mul-result c = omega (arith, spread-lt 16 c.args.row, spread-lt 16 c.args.column)

pub overflow_add-result : goal.overflow_add-result
overflow_add-result c = omega (arith, spread-lt 16 c.args.row, spread-lt 16 c.args.column)

pub returns : goal.returns
returns c = omega (arith, code-spread 16 c.args.row c.args.column)
