-- One step of the recursion that writes a block: where each quarter is written, and what the four come to.
use Rattle.std.specs.Prelude.{◌≡◌, true, List, ℕ, suc, ◌+◌, ◌*◌, ◌-◌, ◌^◌, ◌≤◌, ◌<◌, length}
use Rattle.std.proofs.Common.{ap, ◌∙◌, arith}
use Rattle.std.proofs.lemmas.List.Edits.{sets}
use Rattle.morton.specs.Power.{highest}
use Rattle.tiling.specs.Leaf.{colours}
use Rattle.shortest.specs.Part.{part, size_of, merge, joined}
use Rattle.shortest.specs.Written.{inner, finished, Finishes, Placed}
use Rattle.shortest.specs.Laws.Part.{many_size, merge-same, joined-sizes, not_merged, part_small}
use Rattle.shortest.proofs.Written.{four_finished}
use Rattle.shortest.specs.Laws.Quarters.{Wrote, Ready}
use Rattle.shortest.proofs.Parts.{part-joined}

module _ (f : ℕ → ℕ) (coloured : (j : ℕ) → f j < colours) (o : List ℕ) (at L k : ℕ) (h : Placed f o at (suc L) k) where
  abbrev p₀ : ℕ
  p₀ = part f L k

  abbrev p₁ : ℕ
  p₁ = part f L (k + 4 ^ L)

  abbrev p₂ : ℕ
  p₂ = part f L (k + 2 * 4 ^ L)

  abbrev p₃ : ℕ
  p₃ = part f L (k + 3 * 4 ^ L)

  -- if a quarter is no colour, there is room for all four
  all_room : (merge p₀ p₁ p₂ p₃ ≡ true → ⊥) → at + (size_of p₀ + size_of p₁ + size_of p₂ + size_of p₃) ≤ length o
  all_room n =
      let j = part-joined f coloured L k in
      let m : colours ≤ joined p₀ p₁ p₂ p₃ = not_merged p₀ p₁ p₂ p₃ n in
      omega (arith, joined-sizes p₀ p₁ p₂ p₃ m, h.room (omega arith))

  -- the quarters are placed, each after those before it
  pub placed_nw : Placed f o at L k
  placed_nw = record {
    room = λ m. omega (arith, many_size p₀ m, all_room (λ e. omega (arith, (merge-same p₀ p₁ p₂ p₃ e).0)));
    small = omega (arith, h.small);
  }

  module _ (o₁ : List ℕ) (r₀ s₀ : ℕ) (w₀ : Wrote f L k o o₁ at r₀ s₀) where
    same₀ : s₀ ≡ size_of p₀
    same₀ = w₀.size ∙ ap size_of w₀.is

    pub small₁ : at + s₀ + 3 * 4 ^ L ≤ 2 ^ 63
    small₁ = omega (arith, h.small, same₀, (part_small f coloured L k).1)

    pub placed_ne : Placed f o₁ (at + s₀) L (k + 4 ^ L)
    placed_ne = record {
      room = λ m. omega (arith, same₀, w₀.kept, many_size p₁ m, all_room (λ e. let x = merge-same p₀ p₁ p₂ p₃ e in omega arith));
      small = omega (arith, small₁);
    }

    module _ (o₂ : List ℕ) (r₁ s₁ : ℕ) (w₁ : Wrote f L (k + 4 ^ L) o₁ o₂ (at + s₀) r₁ s₁) where
      same₁ : s₁ ≡ size_of p₁
      same₁ = w₁.size ∙ ap size_of w₁.is

      pub small₂ : at + s₀ + s₁ + 2 * 4 ^ L ≤ 2 ^ 63
      small₂ = omega (arith, small₁, same₁, (part_small f coloured L (k + 4 ^ L)).1)

      pub placed_sw : Placed f o₂ (at + s₀ + s₁) L (k + 2 * 4 ^ L)
      placed_sw = record {
        room = λ m. omega (arith, same₀, same₁, w₀.kept, w₁.kept, many_size p₂ m, all_room (λ e. let x = merge-same p₀ p₁ p₂ p₃ e in omega arith));
        small = omega (arith, small₂);
      }

      module _ (o₃ : List ℕ) (r₂ s₂ : ℕ) (w₂ : Wrote f L (k + 2 * 4 ^ L) o₂ o₃ (at + s₀ + s₁) r₂ s₂) where
        same₂ : s₂ ≡ size_of p₂
        same₂ = w₂.size ∙ ap size_of w₂.is

        pub small₃ : at + s₀ + s₁ + s₂ + 4 ^ L ≤ 2 ^ 63
        small₃ = omega (arith, small₂, same₂, (part_small f coloured L (k + 2 * 4 ^ L)).1)

        pub placed_se : Placed f o₃ (at + s₀ + s₁ + s₂) L (k + 3 * 4 ^ L)
        placed_se = record {
          room = λ m. omega (arith, same₀, same₁, same₂, w₀.kept, w₁.kept, w₂.kept, many_size p₃ m, all_room (λ e. let x = merge-same p₀ p₁ p₂ p₃ e in omega arith));
          small = omega (arith, small₃);
        }

        module _ (o₄ : List ℕ) (r₃ s₃ : ℕ) (w₃ : Wrote f L (k + 3 * 4 ^ L) o₃ o₄ (at + s₀ + s₁ + s₂) r₃ s₃) where
          -- the four together
          four_part : joined r₀ r₁ r₂ r₃ ≡ part f (suc L) k
          four_part = cc (part-joined f coloured L k, w₀.is, w₁.is, w₂.is, w₃.is)

          four_kept : length o₄ ≡ length o
          four_kept = w₃.kept ∙ w₂.kept ∙ w₁.kept ∙ w₀.kept

          four_written : finished o₄ at r₀ r₁ r₂ r₃ k L ≡ sets o at (inner f (suc L) k)
          four_written =
              cc (four_finished f coloured o at L k, w₀.is, w₁.is, w₂.is, w₃.is, w₀.wrote, w₁.wrote, w₂.wrote, w₃.wrote, same₀, same₁, same₂)

          four_finishes : k + 4 * 4 ^ L ≤ 4 ^ highest → L ≤ highest → Finishes o₄ at r₀ r₁ r₂ r₃ k L
          four_finishes codes low = record {
            codes = codes;
            level = low;
            sizes = omega (arith, ap size_of w₀.is, ap size_of w₁.is, ap size_of w₂.is, ap size_of w₃.is, part_small f coloured L k, part_small f coloured L (k + 4 ^ L), part_small f coloured L (k + 2 * 4 ^ L), part_small f coloured L (k + 3 * 4 ^ L));
            room = λ m. omega (arith, four_kept, four_part, h.room (omega (arith, four_part)));
          }

          pub ready : k + 4 * 4 ^ L ≤ 4 ^ highest → L ≤ highest → Ready f o o₄ at L k r₀ r₁ r₂ r₃
          ready codes low = record { finishes = four_finishes codes low; part = four_part; written = four_written; kept = four_kept }

-- the same for counting alone, of a block that is no single cell
module _ (f : ℕ → ℕ) (coloured : (j : ℕ) → f j < colours) (level k : ℕ) (p : 0 < level) (r₀ r₁ r₂ r₃ : ℕ)
    (e₀ : r₀ ≡ part f (level - 1) k) (e₁ : r₁ ≡ part f (level - 1) (k + 4 ^ (level - 1)))
    (e₂ : r₂ ≡ part f (level - 1) (k + 2 * 4 ^ (level - 1))) (e₃ : r₃ ≡ part f (level - 1) (k + 3 * 4 ^ (level - 1))) where
  pub four_counted : joined r₀ r₁ r₂ r₃ ≡ part f level k
  four_counted =
      let e : suc (level - 1) ≡ level = omega arith in
      cc (part-joined f coloured (level - 1) k)
