-- `morton::Spread::bits` meets its contract: a number is spread byte by byte.
use Rattle.std.proofs.Common.{◌/◌, ◌%◌, arith}
use Rattle.morton.specs.Laws.Spread.{spread-lt, spread_split, spread-mod}
use Rattle.morton.proofs.spread.Spread.bits.Goals as goal

pub overflow_mul-result : goal.overflow_mul-result
overflow_mul-result c = omega (arith, spread-lt 8 (c.args.v / 256))

pub overflow_add-result : goal.overflow_add-result
overflow_add-result c = omega (arith, spread-lt 8 (c.args.v / 256), spread-lt 8 (c.args.v % 256))

pub returns : goal.returns
returns c = omega (arith, spread_split 8 8 c.args.v, spread-mod 8 c.args.v)
