-- What follows for the result from what is known of the two maps.
use Rattle.std.specs.Prelude.{◌≡◌, ℕ, Option, Some, None}
use Rattle.probe.specs.declared.seen.Seen.{Seen}
use Rattle.probe.specs.declared.seen.Seen.TheVariants.{One, Mixed}
use Rattle.painter.specs.declared.operations.Operation.{Operation}
use Rattle.painter.specs.Operation.{combine}

-- a colour that agrees with what is known
abbrev pub Agrees : Seen → ℕ → Type 0
Agrees (One c) p = p ≡ c
Agrees (Mixed h) p = Unit {0}

-- one of the two is not known
abbrev pub Open : Seen → Seen → Type 0
Open (One c) (One d) = ⊥
Open (One c) (Mixed h) = Unit {0}
Open (Mixed g) s = Unit {0}

-- a colour that is settled is what the operation gives for all colours that agree; it is left open only if one of the two is not known
abbrev pub Joint : Operation → Seen → Seen → Seen → Type 0
Joint operation a b (One c) = (p q : ℕ) → Agrees a p → Agrees b q → combine operation p q ≡ c
Joint operation a b (Mixed h) = Open a b

-- a colour that is told, or nothing, as what is seen
abbrev pub told : Option ℕ → Seen
told (Some c) = One c
told None = Mixed 0
