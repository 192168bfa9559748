-- What the functions that write a block's list ask and leave, for any picture f.
use Rattle.std.specs.Prelude.{cond, List, [], ℕ, ◌+◌, ◌*◌, ◌-◌, ◌^◌, ◌≤◌, ◌<◌, length, set}
use Rattle.morton.specs.Power.{highest}
use Rattle.tiling.specs.Leaf.{leaf, colours}
use Rattle.shortest.specs.Shortest.{uniform, shortest}
use Rattle.shortest.specs.Part.{part, is_one, size_of, joined}

-- what a block writes before it is known whether it merges with its brothers: nothing if it is of one colour
unfoldable pub inner : (ℕ → ℕ) → ℕ → ℕ → List ℕ
inner f L k = cond (uniform f L k) [] (shortest f L k)

-- a part that is one colour is stored as a leaf, at its place
unfoldable pub filled : List ℕ → ℕ → ℕ → ℕ → ℕ → List ℕ
filled out at p k L = cond (is_one p) (set out at (leaf k L p)) out

-- the four quarters' parts, of level L in the block at k, stored one after another from `at`
unfoldable pub settled : List ℕ → ℕ → ℕ → ℕ → ℕ → ℕ → ℕ → ℕ → List ℕ
settled out at p₀ p₁ p₂ p₃ k L =
    filled (filled (filled (filled out at p₀ k L)
    (at + size_of p₀) p₁ (k + 4 ^ L) L)
    (at + size_of p₀ + size_of p₁) p₂ (k + 2 * 4 ^ L) L)
    (at + size_of p₀ + size_of p₁ + size_of p₂) p₃ (k + 3 * 4 ^ L) L

-- the same, unless the four merge: then nothing is stored
unfoldable pub finished : List ℕ → ℕ → ℕ → ℕ → ℕ → ℕ → ℕ → ℕ → List ℕ
finished out at p₀ p₁ p₂ p₃ k L = cond (is_one (joined p₀ p₁ p₂ p₃)) out (settled out at p₀ p₁ p₂ p₃ k L)

-- what storing one part asks
pub record Fills (out : List ℕ) (at p k L : ℕ) : Type 0 where
  pub code : k < 4 ^ highest
  pub level : L ≤ highest
  pub room : at + size_of p ≤ length out

-- what storing the four asks
pub record Settles (out : List ℕ) (at p₀ p₁ p₂ p₃ k L : ℕ) : Type 0 where
  pub codes : k + 4 * 4 ^ L ≤ 4 ^ highest
  pub level : L ≤ highest
  pub room : at + size_of p₀ + size_of p₁ + size_of p₂ + size_of p₃ ≤ length out

-- the same where they may merge: room only if they do not; their sizes are small in any case
pub record Finishes (out : List ℕ) (at p₀ p₁ p₂ p₃ k L : ℕ) : Type 0 where
  pub codes : k + 4 * 4 ^ L ≤ 4 ^ highest
  pub level : L ≤ highest
  pub sizes : size_of p₀ + size_of p₁ + size_of p₂ + size_of p₃ ≤ 4 ^ highest
  pub room : colours ≤ joined p₀ p₁ p₂ p₃ → at + (joined p₀ p₁ p₂ p₃ - colours) ≤ length out

-- what writing a block of the picture f asks: room for what it writes, and places that are small numbers
pub record Placed (f : ℕ → ℕ) (out : List ℕ) (at L k : ℕ) : Type 0 where
  pub room : colours ≤ part f L k → at + (part f L k - colours) ≤ length out
  pub small : at + 4 ^ L ≤ 2 ^ 63
