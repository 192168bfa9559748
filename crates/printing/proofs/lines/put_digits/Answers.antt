-- `printing::lines::put_digits` meets its contract: the last of the digits is stored first.
use Rattle.std.proofs.Common.{sym, ◌∙◌, arith}
use Rattle.printing.specs.Laws.Lines.{digits_last, digits_none}
use Rattle.printing.proofs.lines.put_digits.Goals as goal

pub loop-i-preserved : goal.loop-i-preserved
loop-i-preserved c = digits_last _ _ _ c.loop-i.out c.loop-i-test.true (omega arith) ∙ c.loop-i.invariant

pub returns : goal.returns
returns c = sym (digits_none c.args.base _ c.loop-i.rest _ c.loop-i-test.false) ∙ c.loop-i.invariant
