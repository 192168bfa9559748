-- What a call answers: what it gives, or a refusal's No. and its number.
use Rattle.std.specs.Prelude.{Bool, true, false, ℕ}

pub data Answer (A : Type 0) : Type 0 where
  gives : A → Answer A
  refuses : ℕ → ℕ → Answer A

-- the checks are made in order: a refusal if its condition holds, and else what comes after
abbrev pub refuse_if : {A : Type 0} → Bool → ℕ → ℕ → Answer A → Answer A
refuse_if true rule number after = refuses rule number
refuse_if false rule number after = after
