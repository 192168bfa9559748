-- What is read never passes the end of the text.
use Rattle.std.proofs.Common.{length, ◌-◌, ◌≤◌}
use Rattle.leaves.proofs.read_full.Given as goal

abbrev pub invariant-loop-more : goal.invariant-loop-more
invariant-loop-more g l = l.got ≤ length l.text

abbrev pub decreases-loop-more : goal.decreases-loop-more
decreases-loop-more g l = length l.text - l.got
