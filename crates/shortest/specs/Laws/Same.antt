-- What a block comes to depends on the picture over that block alone.
use Rattle.std.specs.Prelude.{◌≡◌, ℕ, ◌+◌, ◌^◌, ◌<◌, ◌≤◌}

-- two pictures that are the same over the block of level L at k
abbrev pub Same : (ℕ → ℕ) → (ℕ → ℕ) → ℕ → ℕ → Type 0
Same f g L k = (j : ℕ) → k ≤ j → j < k + 4 ^ L → f j ≡ g j
