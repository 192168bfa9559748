-- What a call answers after its checks.
use Rattle.std.specs.Prelude.{ℕ, Result, Ok, Err}
use Rattle.refusal.specs.Answer.{Answer, refuses}
use Rattle.refusal.specs.Read.{rule_of, number_of}
use Rattle.refusal.specs.declared.Refusal.{Refusal}

-- what the checks have refused, and else what comes after
abbrev pub unless : {A B : Type 0} → Result A Refusal → Answer B → Answer B
unless (Ok u) after = after
unless (Err r) after = refuses (rule_of r) (number_of r)

-- a list that is not well formed is refused, with what its check found; else what comes after
abbrev pub refuse_wrong : {A : Type 0} → ℕ → Result (Unit {0}) ℕ → Answer A → Answer A
refuse_wrong rule (Ok u) after = after
refuse_wrong rule (Err i) after = refuses rule i
