-- `printing::lines::put_lines` meets its contract. The loop keeps: the lines of the leaves so far are written.
use Rattle.std.proofs.Common.{take}
use Rattle.printing.specs.Lines.{lines}
use Rattle.printing.specs.Written.{Written}
use Rattle.printing.proofs.lines.put_lines.Given as goal

abbrev pub invariant-loop-leaf : goal.invariant-loop-leaf
invariant-loop-leaf l = Written (lines l.n (take l.leaf-index l.list)) l.initial.out l.out l.at
