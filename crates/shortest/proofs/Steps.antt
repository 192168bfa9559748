-- One step of the walk down a picture f: the quarters of a block of level L at the code k.
use Rattle.std.specs.Prelude.{◌≡◌, List, ℕ, suc, ◌+◌, ◌*◌, ◌-◌, ◌^◌, ◌≤◌, ◌<◌, length}
use Rattle.std.proofs.Common.{refl, ap, ◌∙◌, arith}
use Rattle.std.proofs.lemmas.List.Edits.{sets}
use Rattle.morton.specs.Power.{highest}
use Rattle.shortest.specs.Part.{part, size_of, joined}
use Rattle.shortest.specs.Written.{inner, finished, Placed}
use Rattle.morton.specs.Block.{Quarter}
use Rattle.morton.specs.Laws.Block.{quarter_place}
use Rattle.shortest.specs.Walk.{Divisible}
use Rattle.shortest.specs.Laws.Power.{pow_four}
use Rattle.shortest.specs.Laws.Quarters.{Wrote, Ready, four_sizes, placed-suc}
use Rattle.shortest.proofs.Quarters.{ready, placed_nw, placed_ne, placed_sw, placed_se, small₁, small₂, small₃, four_counted}

-- what the walk leaves of the quarter i, of level l at the code c
pub record Done (f : ℕ → ℕ) (k L i c l : ℕ) (o o' : List ℕ) (at r s : ℕ) : Type 0 where
  pub quarter : Quarter k L i c l
  pub is : r ≡ part f l c
  pub wrote : o' ≡ sets o at (inner f l c)
  pub kept : length o' ≡ length o
  pub size : s ≡ size_of r

module _ {f : ℕ → ℕ} {L k : ℕ} (z : Divisible f L k) where
  up : suc (L - 1) ≡ L
  up = omega (arith, z.some)

  four_codes : k + 4 * 4 ^ (L - 1) ≤ 4 ^ highest
  four_codes = omega (arith, ap (λ (x : ℕ). 4 ^ x) up, pow_four (L - 1), z.codes)

  -- the part of a quarter
  its_part : {i c l r : ℕ} (t : ℕ) → Quarter k L i c l → t ≡ k + i * 4 ^ (L - 1) → r ≡ part f l c → r ≡ part f (L - 1) t
  its_part t q e h = let p = quarter_place q e in rw (p.0, p.1) at h

  -- the four, counted
  module _ {c₀ l₀ r₀ c₁ l₁ r₁ c₂ l₂ r₂ c₃ l₃ r₃ : ℕ}
      (q₀ : Quarter k L 0 c₀ l₀) (q₁ : Quarter k L 1 c₁ l₁) (q₂ : Quarter k L 2 c₂ l₂) (q₃ : Quarter k L 3 c₃ l₃)
      (e₀ : r₀ ≡ part f l₀ c₀) (e₁ : r₁ ≡ part f l₁ c₁) (e₂ : r₂ ≡ part f l₂ c₂) (e₃ : r₃ ≡ part f l₃ c₃) where
    nw : r₀ ≡ part f (L - 1) k
    nw = its_part k q₀ (omega arith) e₀

    ne : r₁ ≡ part f (L - 1) (k + 4 ^ (L - 1))
    ne = its_part (k + 4 ^ (L - 1)) q₁ (omega arith) e₁

    sw : r₂ ≡ part f (L - 1) (k + 2 * 4 ^ (L - 1))
    sw = its_part (k + 2 * 4 ^ (L - 1)) q₂ refl e₂

    se : r₃ ≡ part f (L - 1) (k + 3 * 4 ^ (L - 1))
    se = its_part (k + 3 * 4 ^ (L - 1)) q₃ refl e₃

    pub counted_fits : size_of r₀ + size_of r₁ + size_of r₂ + size_of r₃ ≤ 4 ^ highest
    counted_fits = omega (arith, four_codes, four_sizes f z.coloured L k z.some r₀ r₁ r₂ r₃ nw ne sw se)

    pub counted_part : joined r₀ r₁ r₂ r₃ ≡ part f L k
    counted_part = four_counted f z.coloured L k z.some r₀ r₁ r₂ r₃ nw ne sw se

  -- a quarter is placed, and has been written, where its level and its code say
  placed : {i c l : ℕ} (t : ℕ) {o : List ℕ} {at : ℕ} → Quarter k L i c l → t ≡ k + i * 4 ^ (L - 1) → Placed f o at (L - 1) t → Placed f o at l c
  placed t q e h = let p = quarter_place q e in rw (p.0, p.1) h

  done : {i c l : ℕ} (t : ℕ) {o o' : List ℕ} {at r s : ℕ} → t ≡ k + i * 4 ^ (L - 1) → Done f k L i c l o o' at r s → Wrote f (L - 1) t o o' at r s
  done t e d = let p = quarter_place d.quarter e in record { is = rw (p.0, p.1) at d.is; wrote = rw (p.0, p.1) at d.wrote; kept = d.kept; size = d.size }

  -- the four, written one after another
  module _ {o : List ℕ} {at : ℕ} (h : Placed f o at L k) where
    whole : Placed f o at (suc (L - 1)) k
    whole = placed-suc f o at L k z.some h

    pub place_nw : {c l : ℕ} → Quarter k L 0 c l → Placed f o at l c
    place_nw q = placed k q (omega arith) (placed_nw f z.coloured o at (L - 1) k whole)

    module _ {c₀ l₀ : ℕ} {o₁ : List ℕ} {r₀ s₀ : ℕ} (d₀ : Done f k L 0 c₀ l₀ o o₁ at r₀ s₀) where
      w₀ : Wrote f (L - 1) k o o₁ at r₀ s₀
      w₀ = done k (omega arith) d₀

      pub fits_ne : at + s₀ < 2 ^ 64
      fits_ne = omega (arith, small₁ f z.coloured o at (L - 1) k whole o₁ r₀ s₀ w₀)

      pub place_ne : {c l : ℕ} → Quarter k L 1 c l → Placed f o₁ (at + s₀) l c
      place_ne q = placed (k + 4 ^ (L - 1)) q (omega arith) (placed_ne f z.coloured o at (L - 1) k whole o₁ r₀ s₀ w₀)

      module _ {c₁ l₁ : ℕ} {o₂ : List ℕ} {r₁ s₁ : ℕ} (d₁ : Done f k L 1 c₁ l₁ o₁ o₂ (at + s₀) r₁ s₁) where
        w₁ : Wrote f (L - 1) (k + 4 ^ (L - 1)) o₁ o₂ (at + s₀) r₁ s₁
        w₁ = done (k + 4 ^ (L - 1)) (omega arith) d₁

        pub fits_sw : at + s₀ + s₁ < 2 ^ 64
        fits_sw = omega (arith, small₂ f z.coloured o at (L - 1) k whole o₁ r₀ s₀ w₀ o₂ r₁ s₁ w₁)

        pub place_sw : {c l : ℕ} → Quarter k L 2 c l → Placed f o₂ (at + s₀ + s₁) l c
        place_sw q = placed (k + 2 * 4 ^ (L - 1)) q refl (placed_sw f z.coloured o at (L - 1) k whole o₁ r₀ s₀ w₀ o₂ r₁ s₁ w₁)

        module _ {c₂ l₂ : ℕ} {o₃ : List ℕ} {r₂ s₂ : ℕ} (d₂ : Done f k L 2 c₂ l₂ o₂ o₃ (at + s₀ + s₁) r₂ s₂) where
          w₂ : Wrote f (L - 1) (k + 2 * 4 ^ (L - 1)) o₂ o₃ (at + s₀ + s₁) r₂ s₂
          w₂ = done (k + 2 * 4 ^ (L - 1)) refl d₂

          pub fits_se : at + s₀ + s₁ + s₂ < 2 ^ 64
          fits_se = omega (arith, small₃ f z.coloured o at (L - 1) k whole o₁ r₀ s₀ w₀ o₂ r₁ s₁ w₁ o₃ r₂ s₂ w₂)

          pub place_se : {c l : ℕ} → Quarter k L 3 c l → Placed f o₃ (at + s₀ + s₁ + s₂) l c
          place_se q = placed (k + 3 * 4 ^ (L - 1)) q refl (placed_se f z.coloured o at (L - 1) k whole o₁ r₀ s₀ w₀ o₂ r₁ s₁ w₁ o₃ r₂ s₂ w₂)

          module _ {c₃ l₃ : ℕ} {o₄ : List ℕ} {r₃ : ℕ} (d₃ : Done f k L 3 c₃ l₃ o₃ o₄ (at + s₀ + s₁ + s₂) r₃ (size_of r₃)) where
            pub all_done : Ready f o o₄ at (L - 1) k r₀ r₁ r₂ r₃
            all_done =
                let w₃ : Wrote f (L - 1) (k + 3 * 4 ^ (L - 1)) o₃ o₄ (at + s₀ + s₁ + s₂) r₃ (size_of r₃) = done (k + 3 * 4 ^ (L - 1)) refl d₃ in
                ready f z.coloured o at (L - 1) k whole o₁ r₀ s₀ w₀ o₂ r₁ s₁ w₁ o₃ r₂ s₂ w₂ o₄ r₃ (size_of r₃) w₃ four_codes (omega (arith, z.low))

            pub all_part : joined r₀ r₁ r₂ r₃ ≡ part f L k
            all_part = all_done.part ∙ ap (λ (x : ℕ). part f x k) up

            pub all_wrote : finished o₄ at r₀ r₁ r₂ r₃ k (L - 1) ≡ sets o at (inner f L k)
            all_wrote = all_done.written ∙ ap (λ (x : ℕ). sets o at (inner f x k)) up
