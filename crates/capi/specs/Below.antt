-- What one number has room for: a measure of what is given, or the number of a refusal, below 2 ^ 32; and how the number is read.
use Rattle.std.specs.Prelude.{cond, ℕ, ◌/◌, ◌%◌, ◌^◌, ◌<◌, ◌≤◌, ltb}
use Rattle.refusal.specs.Answer.{Answer, gives, refuses}

abbrev pub Below : {A : Type 0} → (A → ℕ) → Answer A → Type 0
Below f (gives v) = f v < 2 ^ 32
Below f (refuses rule number) = (0 < rule) × (rule ≤ 12) × (number < 2 ^ 32)

-- a value itself
abbrev pub itself : ℕ → ℕ
itself v = v

-- the answer that a number stands for
abbrev pub decoded : ℕ → Answer ℕ
decoded c = cond (ltb c (2 ^ 32)) (gives c) (refuses (c / 2 ^ 32) (c % 2 ^ 32))
