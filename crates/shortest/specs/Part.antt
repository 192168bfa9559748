-- What a block comes to, as one number: its colour if it is of one colour, and else `colours` more than the leaves of its shortest list.
use Rattle.std.specs.Prelude.{Bool, ◌&&◌, cond, ℕ, ◌+◌, ◌-◌, ltb, eqb, length}
use Rattle.tiling.specs.Leaf.{colours}
use Rattle.shortest.specs.Shortest.{uniform, shortest}

unfoldable pub part : (ℕ → ℕ) → ℕ → ℕ → ℕ
part f L k = cond (uniform f L k) (f k) (colours + length (shortest f L k))

-- the part is one colour
abbrev pub is_one : ℕ → Bool
is_one p = ltb p colours

-- the leaves that a part comes to
unfoldable pub size_of : ℕ → ℕ
size_of p = cond (is_one p) 1 (p - colours)

-- four quarters of one colour
unfoldable pub merge : ℕ → ℕ → ℕ → ℕ → Bool
merge p₀ p₁ p₂ p₃ = is_one p₀ && eqb p₁ p₀ && eqb p₂ p₀ && eqb p₃ p₀

-- the block's part, from its quarters'
unfoldable pub joined : ℕ → ℕ → ℕ → ℕ → ℕ
joined p₀ p₁ p₂ p₃ = cond (merge p₀ p₁ p₂ p₃) p₀ (colours + (size_of p₀ + size_of p₁ + size_of p₂ + size_of p₃))
