-- Four cells of a picture f, the first of them at the code k, as the quarters of their block.
use Rattle.std.specs.Prelude.{◌≡◌, List, ℕ, ◌+◌, ◌-◌, ◌^◌, ◌<◌, ◌≤◌}
use Rattle.std.proofs.Common.{refl, sym, ◌∙◌, arith}
use Rattle.morton.specs.Power.{highest}
use Rattle.tiling.specs.Leaf.{colours}
use Rattle.shortest.specs.Part.{part, size_of, joined}
use Rattle.std.proofs.lemmas.List.Edits.{sets}
use Rattle.shortest.specs.Written.{inner, finished, Finishes, Placed}
use Rattle.shortest.specs.Laws.Quarters.{Wrote, Ready, four_sizes}
use Rattle.shortest.proofs.Parts.{part_cell}
use Rattle.shortest.proofs.Quarters.{four_counted, ready}
use Rattle.shortest.proofs.Written.{cell_inner}

-- a single cell writes nothing by itself
pub cell_wrote : (f : ℕ → ℕ) (k : ℕ) (o : List ℕ) (at p : ℕ) → p ≡ f k → Wrote f 0 k o o at p (size_of p)
cell_wrote f k o at p e = record { is = e ∙ sym (part_cell f k); wrote = cell_inner f k o at; kept = refl; size = refl }

module _ (f : ℕ → ℕ) (coloured : (j : ℕ) → f j < colours) (k : ℕ) {p₀ p₁ p₂ p₃ : ℕ} (e₀ : p₀ ≡ f k) (e₁ : p₁ ≡ f (k + 1)) (e₂ : p₂ ≡ f (k + 2)) (e₃ : p₃ ≡ f (k + 3)) where
  -- a single cell is its own part
  cell : (j p : ℕ) → p ≡ f j → p ≡ part f 0 j
  cell j p e = e ∙ sym (part_cell f j)

  pub cells_fit : size_of p₀ + size_of p₁ + size_of p₂ + size_of p₃ ≤ 4 ^ highest
  cells_fit = omega (arith, four_sizes f coloured 1 k (omega arith) p₀ p₁ p₂ p₃ (cell k p₀ e₀) (cell (k + 1) p₁ e₁) (cell (k + 2) p₂ e₂) (cell (k + 3) p₃ e₃))

  -- they are a block of the level 1
  module _ {L : ℕ} (one : L ≡ 1) where
    pub cells_part : joined p₀ p₁ p₂ p₃ ≡ part f L k
    cells_part = rw one (four_counted f coloured 1 k (omega arith) p₀ p₁ p₂ p₃ (cell k p₀ e₀) (cell (k + 1) p₁ e₁) (cell (k + 2) p₂ e₂) (cell (k + 3) p₃ e₃))

    module _ (fits : k + 4 ≤ 4 ^ highest) {o : List ℕ} {at : ℕ} (h : Placed f o at L k) where
      done : Ready f o o at 0 k p₀ p₁ p₂ p₃
      done =
          ready f coloured o at 0 k (rw one at h) o p₀ _ (cell_wrote f k o at p₀ e₀) o p₁ _ (cell_wrote f (k + 1) o _ p₁ e₁) o p₂ _ (cell_wrote f (k + 2) o _ p₂ e₂) o p₃ _ (cell_wrote f (k + 3) o _ p₃ e₃)
          (omega (arith, fits)) (omega arith)

      pub cells_finish : (0 < L) × Finishes o at p₀ p₁ p₂ p₃ k (L - 1)
      cells_finish = rw one (omega arith, done.finishes)

      pub cells_wrote : finished o at p₀ p₁ p₂ p₃ k (L - 1) ≡ sets o at (inner f L k)
      cells_wrote = rw one done.written
