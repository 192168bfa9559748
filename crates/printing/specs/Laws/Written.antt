-- What is written behind what was written, in the memory from there on.
use Rattle.std.specs.Prelude.{◌≡◌, List, ◌++◌, ℕ, ◌+◌, ◌-◌, ◌≤◌, length, take, drop}
use Rattle.std.proofs.Common.{sym, refl, ap, ap₂, ◌∙◌, append_assoc, arith, length-append, length-take, length-drop, drop_of_length-le, drop-drop, take_all}
use Rattle.std.proofs.lemmas.List.{take_at, drop_at, append-nil}
use borrow.Rule.Slice.PartMut.{put_mid}
use Rattle.printing.specs.Written.{Written}

-- the memory from the end of a on, written anew as x
mid : (a d x : List ℕ) (k : ℕ) → length d ≤ k → put_mid (length a) k (a ++ d) x ≡ a ++ x
mid a d x k h =
    ap₂ (λ y z. y ++ (x ++ drop k z)) (take_at a d _ refl) (drop_at a d _ refl) ∙ ap (λ z. a ++ (x ++ z)) (drop_of_length-le d h) ∙ ap (λ z. a ++ z) (append-nil x)

pub written_more : {a b o₀ o₁ part : List ℕ} {r s : ℕ} → Written a o₀ o₁ r → Written b (take (length o₁ - r) (drop r o₁)) part s → Written (a ++ b) o₀ (put_mid r (length o₁ - r) o₁ part) (r + s)
written_more {a} {b} {o₀} {o₁} {part} {r} {s} v w =
    let d = drop (length a) o₀ in
    let k : length o₁ ≡ length a + length d = ap length v.left ∙ length-append a d in
    let e : drop r o₁ ≡ d = ap₂ (λ n x. drop n x) v.counted v.left ∙ drop_at a d _ refl in
    let f : take (length o₁ - r) (drop r o₁) ≡ d = ap (take (length o₁ - r)) e ∙ take_all (length o₁ - r) d (omega (arith, v.counted)) in
    record {
      counted = omega (arith, v.counted, w.counted, length-append a b);
      left = ap₂ (λ n x. put_mid n (length o₁ - r) x part) v.counted v.left ∙ mid a d part (length o₁ - r) (omega (arith, v.counted))
          ∙ ap (λ x. a ++ x) (w.left ∙ ap (λ x. b ++ drop (length b) x) f) ∙ sym (append_assoc a b (drop (length b) d))
          ∙ ap (λ x. (a ++ b) ++ x) (drop-drop (length b) (length a) o₀ ∙ ap (λ n. drop n o₀) (omega (arith, length-append a b)));
    }

-- the memory behind what was written
pub written_room : {a o₀ o₁ : List ℕ} {r : ℕ} → Written a o₀ o₁ r → r ≤ length o₀ → length (take (length o₁ - r) (drop r o₁)) + r ≡ length o₀
written_room {a} {o₀} {o₁} {r} v h =
    let k : length o₁ ≡ length o₀ = ap length v.left ∙ length-append a (drop (length a) o₀) ∙ omega (arith, v.counted, length-drop (length a) o₀) in
    simp (length-take, length-drop) (omega (arith, v.counted))
