-- `pbm::header::number` meets its contract. The loop keeps: counted on from value, the number of the rest is the number of the text.
use Rattle.std.proofs.Common.{◌≡◌, ◌≤◌, length}
use Rattle.pbm.specs.Reading.{number, past_digits}
use Rattle.pbm.specs.Steps.{capped}
use Rattle.pbm.proofs.header.number.Given as goal

abbrev pub invariant-loop-digit : goal.invariant-loop-digit
invariant-loop-digit l = record {
  small : l.value ≤ 33;
  same_number : capped (number l.value l.rest) ≡ capped (number 0 l.text);
  same_rest : past_digits l.rest ≡ past_digits l.text;
}

abbrev pub decreases-loop-digit : goal.decreases-loop-digit
decreases-loop-digit l = length l.rest
