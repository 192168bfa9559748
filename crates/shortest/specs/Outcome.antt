-- What comes of a call that writes into memory that is lent to it: a list, or a refusal.
use Rattle.std.specs.Prelude.{List, ◌++◌, ℕ, ltb, length, drop}
use Rattle.refusal.specs.Rules as rule
use Rattle.refusal.specs.Answer.{Answer, gives, refuses, refuse_if}

abbrev pub Outcome : Type 0
Outcome = Answer (List ℕ)

-- a list that is longer than the space lent is refused, with its length
abbrev pub fitting : List ℕ → ℕ → Outcome
fitting l space = refuse_if (ltb space (length l)) rule.no_room (length l) (gives l)

-- the answer: how many words were written
abbrev pub written : Outcome → Answer ℕ
written (gives l) = gives (length l)
written (refuses rule number) = refuses rule number

-- the memory lent, afterwards: the list and then the old rest; after a refusal as it was
abbrev pub left : Outcome → List ℕ → List ℕ
left (gives l) old = l ++ drop (length l) old
left (refuses rule number) old = old
