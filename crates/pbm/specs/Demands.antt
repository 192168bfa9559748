-- What is promised of a picture text, stated without the way it is read.
use Rattle.std.specs.Prelude.{◌≡◌, List, ◌↔◌, ℕ, Result}
use Rattle.std.proofs.Common.{subst}
use Rattle.refusal.specs.Answer.{Answer}
use Rattle.refusal.specs.Read.{answered}
use Rattle.refusal.specs.declared.Refusal.{Refusal}
use Rattle.refusal.specs.Laws.OneAnswer.{one_answer}
use Rattle.pbm.specs.Reading.{picture}
use Rattle.pbm.specs.Picture.{Reads, Picture}
use Rattle.pbm.specs.Laws.Exactly.{reads, from_reads}

-- a text is read exactly if it is a picture, and as that picture; any other is refused
pub read_exactly : (t : List ℕ) (a : Answer Picture) → (picture t ≡ a) ↔ Reads t a
read_exactly t a = (λ e. subst (λ x. Reads t x) e (reads t), from_reads t a)

-- two answers that the contract of `read` allows are equal
pub one_reading : (a : Answer ℕ) (r s : Result ℕ Refusal) → answered r ≡ a → answered s ≡ a → r ≡ s
one_reading = one_answer
