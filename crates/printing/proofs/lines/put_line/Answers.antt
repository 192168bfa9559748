-- `printing::lines::put_line` meets its contract: three numerals, each where the one before it ends.
use Rattle.std.proofs.Common.{arith}
use Rattle.printing.specs.Lines.{line}
use Rattle.printing.specs.Laws.Written.{written_more, written_room}
use Rattle.printing.proofs.lines.put_line.Goals as goal

pub put_numeral-requires : goal.put_numeral-requires
put_numeral-requires c = (omega arith, omega arith, omega (arith, written_room c.put_numeral-first.ensures.written (omega arith)))

pub put_numeral-requires-2 : goal.put_numeral-requires-2
put_numeral-requires-2 c =
    let w = written_more c.put_numeral-first.ensures.written c.put_numeral.ensures.written in
    (omega arith, omega arith, omega (arith, written_room w (omega arith)))

pub returns : goal.returns
unfolding line
returns c =
    let first = rw (c.code_digits.ensures.value, c.code_of.ensures) at c.put_numeral-first.ensures.written in
    let second = rw (c.decimals_of.ensures.value, c.level_of-level.ensures) at c.put_numeral.ensures.written in
    let third = rw (c.decimals_of-2.ensures.value, c.colour_of-colour.ensures) at c.put_numeral-2.ensures.written in
    written_more (written_more first second) third
