-- What is answered of a list that is to be a map.
use Rattle.std.specs.Prelude.{◌≡◌, List, ℕ, Result, Ok, Err}
use Rattle.tiling.specs.Check.{checked}
use Rattle.tiling.specs.declared.Map.{Map}

-- the map has that size and that list
abbrev pub Of : ℕ → List ℕ → Map → Type 0
Of n l m = (m.n ≡ n) × (m.list.now ≡ l)

-- so has the map that is answered, if there is one
abbrev pub Gives : {E : Type 0} → ℕ → List ℕ → Result Map E → Type 0
Gives n l (Ok m) = Of n l m
Gives n l (Err e) = Unit {0}

-- it is answered if the check finds nothing, and else what the check finds
abbrev pub Judges : ℕ → List ℕ → Result Map ℕ → Type 0
Judges n l (Ok m) = (checked n l ≡ Ok tt) × Of n l m
Judges n l (Err i) = checked n l ≡ Err i
