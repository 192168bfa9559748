-- Digits, numerals and lines, stored one after another.
use Rattle.std.specs.Prelude.{◌≡◌, refl, Bool, true, false, cond, List, [], ◌∷◌, ◌++◌, ℕ, zero, suc, ◌+◌, ◌*◌, ◌-◌, ◌/◌, ◌%◌, ◌≤◌, ◌<◌, ltb, eqb, length, set, drop, get_or}
use Rattle.std.proofs.Common.{sym, ap, ◌∙◌, add-one, arith, append_assoc, length-append, drop_of_length-le, drop-cons}
use Rattle.pbm.specs.Bytes.{zero_digit}
use Rattle.std.proofs.lemmas.List.{drop-set}
use Rattle.tiling.specs.Leaf.{level_of, colour_of}
use Rattle.printing.specs.Lines.{digits, decimals, code_digits, line, lines, numeral}
use Rattle.std.proofs.lemmas.List.Edits.{sets}
use Rattle.shortest.specs.Laws.Stores.{sets_last, sets-append}

pub digits-length : (base k v : ℕ) → length (digits base k v) ≡ k
unfolding digits
digits-length base zero v = refl
digits-length base (suc k) v = simp length-append (omega (arith, digits-length base k (v / base)))

-- the last of the digits may be stored first
pub digits_last : (base i v : ℕ) (o : List ℕ) → 0 < i → i ≤ length o → digits base (i - 1) (v / base) ++ drop (i - 1) (set o (i - 1) (zero_digit + v % base)) ≡ digits base i v ++ drop i o
unfolding digits
digits_last base zero v o h k = absurd (omega arith)
digits_last base (suc i) v o h k =
    let e : suc i - 1 ≡ i = omega arith in
    rw e (ap (λ l. digits base i (v / base) ++ l) (drop-set o i (zero_digit + v % base) k ∙ ap (λ n. (zero_digit + v % base) ∷ drop n o) (add-one i)) ∙ sym (append_assoc (digits base i (v / base)) ((zero_digit + v % base) ∷ []) (drop (suc i) o)))

pub digits_none : (base i v : ℕ) (o : List ℕ) → i ≤ 0 → digits base i v ++ drop i o ≡ o
unfolding digits
digits_none base zero v o h = refl
digits_none base (suc i) v o h = absurd (omega arith)

-- the same of digits that are stored into a list
pub sets_digit : (base i v : ℕ) (o : List ℕ) (at : ℕ) → 0 < i → sets o at (digits base i v) ≡ sets (set o (at + (i - 1)) (48 + v % base)) at (digits base (i - 1) (v / base))
unfolding digits
sets_digit base zero v o at h = absurd (omega arith)
sets_digit base (suc i) v o at h =
    let e : suc i - 1 ≡ i = omega arith in
    rw e (sets_last (digits base i (v / base)) o at (at + i) (48 + v % base) (omega (arith, digits-length base i (v / base))))

pub sets_none : (base i v : ℕ) (o : List ℕ) (at : ℕ) → i ≤ 0 → o ≡ sets o at (digits base i v)
unfolding digits
sets_none base zero v o at h = refl
sets_none base (suc i) v o at h = absurd (omega arith)

pub numeral-length : (base k v end : ℕ) → length (numeral base k v end) ≡ k + 1
numeral-length base k v end = simp length-append (omega (arith, digits-length base k v))

pub few_decimals : (v : ℕ) → decimals v ≤ 3
few_decimals v = go (ltb v 10) (ltb v 100)
  where
    go : (x y : Bool) → cond x 1 (cond y 2 3) ≤ 3
    go true y = omega arith
    go false true = omega arith
    go false false = omega arith

pub few_digits : (n : ℕ) → n ≤ 5 → code_digits n ≤ 5
few_digits n h = go (eqb n 0)
  where
    go : (x : Bool) → cond x 1 n ≤ 5
    go true = omega arith
    go false = h

-- three lists stored, each where the one before it ends
pub three : (a b c o : List ℕ) (at r₁ r₂ r₃ : ℕ) (o₁ o₂ o₃ : List ℕ) → r₁ ≡ at + length a → o₁ ≡ sets o at a → r₂ ≡ r₁ + length b → o₂ ≡ sets o₁ r₁ b → r₃ ≡ r₂ + length c → o₃ ≡ sets o₂ r₂ c
    → (r₃ ≡ at + length (a ++ b ++ c)) × (o₃ ≡ sets o at (a ++ b ++ c))
three a b c o at r₁ r₂ r₃ o₁ o₂ o₃ e₁ w₁ e₂ w₂ e₃ w₃ = (
  omega (arith, length-append (a ++ b) c, length-append a b),
  w₃ ∙ ap (λ x. sets x r₂ c) (w₂ ∙ ap (λ x. sets x r₁ b) w₁ ∙ sets-append a b o at r₁ e₁) ∙ sets-append (a ++ b) c o at r₂ (omega (arith, length-append a b)),
)

pub line-length : (n w : ℕ) → n ≤ 5 → length (line n w) ≤ 16
unfolding line
line-length n w h =
    simp (length-append, digits-length)
    (omega (arith, few_digits n h, few_decimals (level_of w), few_decimals (colour_of w)))

-- one more line
pub lines_more : (n : ℕ) (l : List ℕ) (i : ℕ) → i < length l → lines n (drop i l) ≡ line n (get_or l i 0) ++ lines n (drop (i + 1) l)
lines_more n l i h = rw (drop-cons l i 0 h, add-one)

pub lines_end : (n : ℕ) (l : List ℕ) (i : ℕ) → length l ≤ i → lines n (drop i l) ≡ []
lines_end n l i h = rw (drop_of_length-le l h)

pub lines-length : (n : ℕ) (l : List ℕ) → n ≤ 5 → length (lines n l) ≤ 16 * length l
lines-length n [] h = omega arith
lines-length n (w ∷ ws) h = simp length-append (omega (arith, lines-length n ws h, line-length n w h))
