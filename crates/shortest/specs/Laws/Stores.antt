-- Runs of stores, one after another.
use Rattle.std.specs.Prelude.{◌≡◌, refl, List, [], ◌∷◌, ◌++◌, ℕ, suc, ◌+◌, ◌≤◌, ◌<◌, length, set, drop}
use Rattle.std.proofs.Common.{ap, ◌∙◌, zero-add, arith, length-append}
use Rattle.std.proofs.lemmas.List.Edits.{sets, sets-eq}
use Rattle.std.proofs.lemmas.List.{set_comm}

pub sets-append : (a b l : List ℕ) (i j : ℕ) → j ≡ i + length a → sets (sets l i a) j b ≡ sets l i (a ++ b)
sets-append [] b l i j e = let q : j ≡ i = omega arith in ap (λ (n : ℕ). sets l n b) q
sets-append (x ∷ a) b l i j e = sets-append a b (set l i x) (suc i) j (omega arith)

pub sets_four : (a b c d o : List ℕ) (i i₁ i₂ i₃ : ℕ) → i₁ ≡ i + length a → i₂ ≡ i₁ + length b → i₃ ≡ i₂ + length c
    → sets (sets (sets (sets o i a) i₁ b) i₂ c) i₃ d ≡ sets o i (a ++ b ++ c ++ d)
sets_four a b c d o i i₁ i₂ i₃ e₁ e₂ e₃ =
    ap (λ x. sets (sets x i₂ c) i₃ d) (sets-append a b o i i₁ e₁)
    ∙ ap (λ x. sets x i₃ d) (sets-append (a ++ b) c o i i₂ (omega (arith, length-append a b)))
    ∙ sets-append (a ++ b ++ c) d o i i₃ (omega (arith, length-append (a ++ b) c, length-append a b))

-- a store before a run of stores
pub set-sets : (vs l : List ℕ) (i j v : ℕ) → i < j → set (sets l j vs) i v ≡ sets (set l i v) j vs
set-sets [] l i j v h = refl
set-sets (a ∷ vs) l i j v h =
    set-sets vs (set l j a) i (suc j) v (omega arith) ∙ ap (λ (o : List ℕ). sets o (suc j) vs) (set_comm l j i a v (omega arith))

-- the last store may come first
pub sets_last : (a l : List ℕ) (i j x : ℕ) → j ≡ i + length a → sets l i (a ++ x ∷ []) ≡ sets (set l j x) i a
sets_last [] l i j x e = ap (λ k. set l k x) (omega arith)
sets_last (y ∷ a) l i j x e =
    sets_last a (set l i y) (suc i) j x (omega arith) ∙ ap (λ o. sets o (suc i) a) (set_comm l i j y x (omega arith))

-- stored from the front on: the list, and then the old rest
pub sets_front : (l o : List ℕ) → length l ≤ length o → sets o 0 l ≡ l ++ drop (length l) o
sets_front l o h = sets-eq l o 0 (omega arith) ∙ ap (λ (d : ℕ). l ++ drop d o) (zero-add (length l))
