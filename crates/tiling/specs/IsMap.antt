-- What a map is, to those who look at one: a size that is provided for, and a list that is well formed for it.
use Rattle.std.specs.Prelude.{List, ℕ, ◌≤◌}
use Rattle.morton.specs.Power.{highest}
use Rattle.tiling.specs.WellFormed.{WellFormed}

pub record IsMap (n : ℕ) (l : List ℕ) : Type 0 where
  pub size : n ≤ highest
  pub formed : WellFormed n l
