-- What follows from a list's being the shortest: it is the only one of its length.
use Rattle.std.specs.Prelude.{◌≡◌, List, ℕ, ◌<◌, ◌≤◌, length}
use Rattle.std.proofs.Common.{sym, ◌∙◌, arith}
use Rattle.tiling.specs.Leaf.{colours}
use Rattle.tiling.specs.Map.{limit}
use Rattle.tiling.specs.WellFormed.{WellFormed}
use Rattle.shortest.specs.Shortest.{ShowsPicture}
use Rattle.shortest.specs.Demand.{IsShortest}
use Rattle.shortest.proofs.Only.{only_shortest}

-- a shortest list is the only one of its length
pub only : (f : ℕ → ℕ) (n : ℕ) (l : List ℕ) → n ≤ limit → ((k : ℕ) → f k < colours) → IsShortest f n l → (other : List ℕ) → WellFormed n other → ShowsPicture f n other → length other ≤ length l → other ≡ l
only f n l low coloured i other g s h =
    only_shortest f n (omega arith) coloured other (record { formed = g; shows = s; least = λ o p q. omega (arith, i.least o p q) })
    ∙ sym (only_shortest f n (omega arith) coloured l i)
