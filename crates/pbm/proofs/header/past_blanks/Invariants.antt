-- `pbm::header::past_blanks` meets its contract. The loop keeps: what follows the white space in front of the rest is what follows it in the text.
use Rattle.std.proofs.Common.{◌≡◌, false, length}
use Rattle.pbm.specs.Reading.{past_blanks}
use Rattle.pbm.proofs.header.past_blanks.Given as goal

abbrev pub invariant-loop-behind : goal.invariant-loop-behind
invariant-loop-behind l = past_blanks false l.rest ≡ past_blanks false l.text

abbrev pub decreases-loop-behind : goal.decreases-loop-behind
decreases-loop-behind l = length l.rest
