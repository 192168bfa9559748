-- The table of 256 spread numbers.
use Rattle.std.specs.Prelude.{◌≡◌, List, ℕ, ◌<◌, get_or}
use Rattle.morton.specs.Code.{spread}

-- entry v has bit k of v at bit 2k and zeros elsewhere
pub record Spreads (table : List ℕ) : Type 0 where
  pub entry : (v : ℕ) → v < 256 → get_or table v 0 ≡ spread 8 v
