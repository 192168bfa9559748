-- What the four quarters' writes come to: nothing if the block is of one colour, and else its shortest list.
use Rattle.std.specs.Prelude.{◌≡◌, Bool, true, false, List, [], ℕ, ◌+◌, ◌*◌, ◌^◌, ◌≤◌, ◌<◌, length, set}
use Rattle.std.proofs.Math.Path.{refl}
use Rattle.std.proofs.Common.{ap, ◌∙◌, arith, length-set, lt-ltb, le-ltb}
use Rattle.std.proofs.lemmas.List.Edits.{sets}
use Rattle.tiling.specs.Leaf.{leaf, colours}
use Rattle.shortest.specs.Shortest.{uniform, shortest}
use Rattle.shortest.specs.Part.{part, is_one, size_of, joined}
use Rattle.shortest.specs.Written.{inner, filled, settled, finished}
use Rattle.shortest.specs.Laws.Stores.{set-sets}
use Rattle.shortest.specs.Laws.Paint.{shortest_one}
use Rattle.shortest.specs.Laws.Part.{part_one, part_many, one_uniform}

pub filled_one : (out : List ℕ) (at p k L : ℕ) → p < colours → filled out at p k L ≡ set out at (leaf k L p)
unfolding filled
filled_one out at p k L h = rw (lt-ltb p colours h)

pub filled_many : (out : List ℕ) (at p k L : ℕ) → colours ≤ p → filled out at p k L ≡ out
unfolding filled
filled_many out at p k L h = rw (le-ltb p colours h)

pub filled-length : (out : List ℕ) (at p k L : ℕ) → length (filled out at p k L) ≡ length out
unfolding filled
filled-length out at p k L = go (is_one p) refl
  where
    go : (b : Bool) → is_one p ≡ b → length (filled out at p k L) ≡ length out
    go true e = rw e (length-set out at (leaf k L p))
    go false e = rw e

filled-sets : (l vs : List ℕ) (i j k L p : ℕ) → i < j → filled (sets l j vs) i p k L ≡ sets (filled l i p k L) j vs
unfolding filled
filled-sets l vs i j k L p h = go (is_one p) refl
  where
    go : (b : Bool) → is_one p ≡ b → filled (sets l j vs) i p k L ≡ sets (filled l i p k L) j vs
    go true e = rw e (set-sets vs l i j (leaf k L p) h)
    go false e = rw e

pub finished_one : (out : List ℕ) (at p₀ p₁ p₂ p₃ k L : ℕ) → joined p₀ p₁ p₂ p₃ < colours → finished out at p₀ p₁ p₂ p₃ k L ≡ out
unfolding finished
finished_one out at p₀ p₁ p₂ p₃ k L h = rw (lt-ltb (joined p₀ p₁ p₂ p₃) colours h)

pub finished_many : (out : List ℕ) (at p₀ p₁ p₂ p₃ k L : ℕ) → colours ≤ joined p₀ p₁ p₂ p₃ → finished out at p₀ p₁ p₂ p₃ k L ≡ settled out at p₀ p₁ p₂ p₃ k L
unfolding finished
finished_many out at p₀ p₁ p₂ p₃ k L h = rw (le-ltb (joined p₀ p₁ p₂ p₃) colours h)

-- ---- a block's own writes

pub inner_one : (f : ℕ → ℕ) (L k : ℕ) → uniform f L k ≡ true → inner f L k ≡ []
unfolding inner
inner_one f L k h = rw h

pub inner_many : (f : ℕ → ℕ) (L k : ℕ) → uniform f L k ≡ false → inner f L k ≡ shortest f L k
unfolding inner
inner_many f L k h = rw h

-- a block that comes to a colour writes nothing by itself
pub colour_inner : (f : ℕ → ℕ) → ((j : ℕ) → f j < colours) → (c L k : ℕ) → c < colours → c ≡ part f L k → (o : List ℕ) (at : ℕ) → o ≡ sets o at (inner f L k)
colour_inner f coloured c L k h e o at = rw (inner_one f L k (one_uniform f coloured L k (omega arith)))

-- the four quarters' own writes, one after another
abbrev pub four_inner : (ℕ → ℕ) → List ℕ → ℕ → ℕ → ℕ → ℕ → ℕ → ℕ → List ℕ
four_inner f o a₀ a₁ a₂ a₃ L k =
    sets (sets (sets (sets o a₀ (inner f L k)) a₁ (inner f L (k + 4 ^ L))) a₂ (inner f L (k + 2 * 4 ^ L))) a₃ (inner f L (k + 3 * 4 ^ L))

module _ (f : ℕ → ℕ) (coloured : (j : ℕ) → f j < colours) where
  -- with its leaf put in if it is of one colour, a block's writes are its shortest list
  pub filled-inner : (o : List ℕ) (at L k : ℕ) → filled (sets o at (inner f L k)) at (part f L k) k L ≡ sets o at (shortest f L k)
  filled-inner o at L k = go (uniform f L k) refl
    where
      go : (b : Bool) → uniform f L k ≡ b → filled (sets o at (inner f L k)) at (part f L k) k L ≡ sets o at (shortest f L k)
      go true e =
          rw (inner_one f L k e, part_one f L k e, shortest_one f L k e) (filled_one o at (f k) k L (coloured k))
      go false e =
          let m : colours ≤ part f L k = omega (arith, part_many f L k e) in
          filled_many (sets o at (inner f L k)) at (part f L k) k L m ∙ ap (λ l. sets o at l) (inner_many f L k e)

  pub four_filled : (L k₀ k₁ k₂ k₃ a₀ a₁ a₂ a₃ : ℕ) (o : List ℕ) → a₀ < a₁ → a₁ < a₂ → a₂ < a₃
      → filled (filled (filled (filled (sets (sets (sets (sets o a₀ (inner f L k₀)) a₁ (inner f L k₁)) a₂ (inner f L k₂)) a₃ (inner f L k₃)) a₀ (part f L k₀) k₀ L) a₁ (part f L k₁) k₁ L) a₂ (part f L k₂) k₂ L) a₃ (part f L k₃) k₃ L
      ≡ sets (sets (sets (sets o a₀ (shortest f L k₀)) a₁ (shortest f L k₁)) a₂ (shortest f L k₂)) a₃ (shortest f L k₃)
  four_filled L k₀ k₁ k₂ k₃ a₀ a₁ a₂ a₃ o h₁ h₂ h₃ =
      let h₀₂ : a₀ < a₂ = omega arith in
      let h₀₃ : a₀ < a₃ = omega arith in
      let h₁₃ : a₁ < a₃ = omega arith in
      simp (filled-sets, filled-inner)

-- four stores one after another, by the area q and the sizes s that the code has at hand
pub settled_four : (o o₁ o₂ o₃ o₄ : List ℕ) (at s₀ s₁ s₂ p₀ p₁ p₂ p₃ k L q : ℕ) → q ≡ 4 ^ L → s₀ ≡ size_of p₀ → s₁ ≡ size_of p₁ → s₂ ≡ size_of p₂
    → o₁ ≡ filled o at p₀ k L → o₂ ≡ filled o₁ (at + s₀) p₁ (k + q) L → o₃ ≡ filled o₂ (at + s₀ + s₁) p₂ (k + 2 * q) L
    → o₄ ≡ filled o₃ (at + s₀ + s₁ + s₂) p₃ (k + 3 * q) L → o₄ ≡ settled o at p₀ p₁ p₂ p₃ k L
unfolding settled
settled_four o o₁ o₂ o₃ o₄ at s₀ s₁ s₂ p₀ p₁ p₂ p₃ k L q e e₀ e₁ e₂ f₁ f₂ f₃ f₄ = cc
