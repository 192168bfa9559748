-- What is seen of a square of cells, in any picture g of colours by row and column.
use Rattle.std.specs.Prelude.{◌≡◌, ℕ, ◌+◌, ◌/◌, ◌^◌, ◌<◌}
use Rattle.probe.specs.declared.seen.Seen.{Seen}
use Rattle.probe.specs.declared.seen.Seen.TheVariants.{One, Mixed}

-- every cell of the square of side 2 ^ level at (row, column) has the colour
pub record Shows (g : ℕ → ℕ → ℕ) (row column level colour : ℕ) : Type 0 where
  pub each : (i j : ℕ) → i < 2 ^ level → j < 2 ^ level → g (row + i) (column + j) ≡ colour

-- every cell of the aligned square of side 2 ^ level that holds the cell (row, column) has the colour
pub record Covers (g : ℕ → ℕ → ℕ) (row column level colour : ℕ) : Type 0 where
  pub each : (r c : ℕ) → r / 2 ^ level ≡ row / 2 ^ level → c / 2 ^ level ≡ column / 2 ^ level → g r c ≡ colour

-- what an answer promises: one colour is that of every cell; a single cell is never mixed
abbrev pub Tells : (ℕ → ℕ → ℕ) → ℕ → ℕ → ℕ → Seen → Type 0
Tells g row column level (One c) = Shows g row column level c
Tells g row column level (Mixed h) = 0 < level

-- what was known before: a colour is right; a place may be any number
abbrev pub Holds : (ℕ → ℕ → ℕ) → ℕ → ℕ → ℕ → Seen → Type 0
Holds g row column level (One c) = Shows g row column level c
Holds g row column level (Mixed h) = Unit {0}
