-- The fact that every code of a block has one colour.
use Rattle.std.specs.Prelude.{◌≡◌, ℕ, suc, ◌+◌, ◌*◌, ◌^◌, ◌≤◌, ◌<◌}
use Rattle.std.proofs.Common.{le_refl, arith}
use Rattle.std.proofs.Math.Decide.{dec_lt}
use Rattle.shortest.specs.Laws.Power.{pow_pos}

abbrev pub Flat : (ℕ → ℕ) → ℕ → ℕ → ℕ → Type 0
Flat f c L k = (j : ℕ) → k ≤ j → j < k + 4 ^ L → f j ≡ c

-- the four quarters of a block make it up
pub quarters : (f : ℕ → ℕ) (c L k : ℕ) → Flat f c L k → Flat f c L (k + 4 ^ L) → Flat f c L (k + 2 * 4 ^ L) → Flat f c L (k + 3 * 4 ^ L) → Flat f c (suc L) k
quarters f c L k h₀ h₁ h₂ h₃ j lo hi =
    elim (dec_lt j (k + 4 ^ L)) [
      | yes a ↦ h₀ j lo a
      | no a ↦ elim (dec_lt j (k + 2 * 4 ^ L)) [
        | yes b ↦ h₁ j (omega arith) (omega arith)
        | no b ↦ elim (dec_lt j (k + 3 * 4 ^ L)) [
          | yes d ↦ h₂ j (omega arith) (omega arith)
          | no d ↦ h₃ j (omega arith) (omega arith)
        ]
      ]
    ]

-- a block of one colour is of its first code's
pub flat_first : (f : ℕ → ℕ) (c L k : ℕ) → Flat f c L k → f k ≡ c
flat_first f c L k h = h k (le_refl k) (omega (arith, pow_pos L))
