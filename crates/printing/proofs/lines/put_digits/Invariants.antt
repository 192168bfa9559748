-- `printing::lines::put_digits` meets its contract. The loop keeps: the digits of rest before place i and what stands from there on are the digits.
use Rattle.std.proofs.Common.{◌≡◌, ◌++◌, length, drop}
use Rattle.printing.specs.Lines.{digits}
use Rattle.printing.proofs.lines.put_digits.Given as goal

abbrev pub invariant-loop-i : goal.invariant-loop-i
invariant-loop-i l = digits l.base l.i l.rest ++ drop l.i l.out ≡ digits l.base (length l.initial.out) l.value
