-- Numbers, sizes and fields of a header.
use Rattle.std.specs.Prelude.{◌≡◌, refl, Bool, true, false, ◌&&◌, cond, List, [], ◌∷◌, ℕ, zero, suc, ◌+◌, ◌*◌, ◌^◌, ◌≤◌, ◌<◌, eqb, drop, leb, length, get_or}
use Rattle.std.proofs.Common.{sym, ap, ap₂, ◌∙◌, arith, take}
use Rattle.std.specs.Cmp.Lexicographic.{pointwise}
use Rattle.std.proofs.lemmas.Bool.{false≢true}
use Rattle.std.proofs.Math.Nat.{pow-le-pow_right}
use Rattle.std.proofs.Math.Dec.{ltb}
use borrow.Author.Tests.{ne_eqb, eq-eqb, lt-ltb, le-ltb, ltb-true, ltb-false, eqb-true, leb-true}
use Rattle.tiling.specs.Laws.Tests.{and_both, both_and, and_first, and_second}
use Rattle.pbm.specs.Reading.{is_field, field, size_from, size_of_side, is_plain, at_width, at_height, size, is_header}
use Rattle.pbm.specs.Steps.{capped}
use Rattle.pbm.specs.Bytes.{is_digit}

-- no side is above 32
pub large_side : (v : ℕ) → 32 < v → size_of_side v ≡ 6
unfolding size_from
large_side v h = rw (ne_eqb v 1 (λ e. omega arith), ne_eqb v 2 (λ e. omega arith), ne_eqb v 4 (λ e. omega arith), ne_eqb v 8 (λ e. omega arith), ne_eqb v 16 (λ e. omega arith), ne_eqb v 32 (λ e. omega arith))

pub no_side : (v : ℕ) → (v ≡ 1 → ⊥) → (v ≡ 2 → ⊥) → (v ≡ 4 → ⊥) → (v ≡ 8 → ⊥) → (v ≡ 16 → ⊥) → (v ≡ 32 → ⊥) → size_of_side v ≡ 6
unfolding size_from
no_side v a b c d e f = rw (ne_eqb v 1 a, ne_eqb v 2 b, ne_eqb v 4 c, ne_eqb v 8 d, ne_eqb v 16 e, ne_eqb v 32 f)

pub capped_more : (v d : ℕ) → capped (10 * capped v + d) ≡ capped (10 * v + d)
capped_more v d = omega arith

pub digit_zero : (b : ℕ) → is_digit b ≡ true → 48 ≤ b
digit_zero b e = leb-true 48 b (and_both (leb 48 b) (leb b 57) e).0

-- whether a text begins with `P1`
pub short_plain : (t : List ℕ) → length t < 2 → is_plain t ≡ false
unfolding is_plain
short_plain [] h = refl
short_plain (p ∷ []) h = refl
short_plain (p ∷ q ∷ t) h = absurd (omega arith)

pub plain : (t : List ℕ) → 2 ≤ length t → is_plain t ≡ eqb (get_or t 0 0) 80 && eqb (get_or t 1 0) 49
unfolding is_plain
plain [] h = absurd (omega arith)
plain (p ∷ []) h = absurd (omega arith)
plain (p ∷ q ∷ t) h = refl

pub plain_two : (t : List ℕ) → is_plain t ≡ true → 2 ≤ length t
unfolding is_plain
plain_two [] e = absurd (false≢true e)
plain_two (p ∷ []) e = absurd (false≢true e)
plain_two (p ∷ q ∷ t) e = omega arith

pub plain-drop : (t : List ℕ) → is_plain t ≡ true → t ≡ 80 ∷ 49 ∷ drop 2 t
unfolding is_plain
plain-drop [] e = absurd (false≢true e)
plain-drop (p ∷ []) e = absurd (false≢true e)
plain-drop (p ∷ q ∷ t) e = let k = and_both (eqb p 80) (eqb q 49) e in ap₂ (λ x y. x ∷ y ∷ t) (eqb-true p 80 k.0) (eqb-true q 49 k.1)

pub plain_prefix : (t : List ℕ) → pointwise eqb (take 2 t) (80 ∷ 49 ∷ []) ≡ is_plain t
unfolding is_plain
plain_prefix [] = refl
plain_prefix (p ∷ []) = elim (eqb p 80) as (λ x. x && false ≡ false) [ true ↦ refl | false ↦ refl ]
plain_prefix (p ∷ q ∷ t) = elim (eqb q 49) as (λ x. eqb p 80 && (x && true) ≡ eqb p 80 && x) [ true ↦ refl | false ↦ refl ]

size_from_lem : (more n v : ℕ) → size_from more n v ≤ n + more
unfolding size_from
size_from_lem zero n v = omega arith
size_from_lem (suc more) n v = go (eqb v (2 ^ n)) (size_from_lem more (suc n) v)
  where
    go : (x : Bool) → size_from more (suc n) v ≤ suc n + more → cond x n (size_from more (suc n) v) ≤ n + suc more
    go true h = omega arith
    go false h = omega arith

-- the size of a number that is counted to 33 only is the number's own
pub size-capped : (v : ℕ) → size_of_side (capped v) ≡ size_of_side v
size-capped v = go (ltb 32 v) refl
  where
    go : (x : Bool) → ltb 32 v ≡ x → size_of_side (capped v) ≡ size_of_side v
    go true e = let h = ltb-true 32 v e in large_side (capped v) (omega arith) ∙ sym (large_side v h)
    go false e = let h = ltb-false 32 v e in let q : capped v ≡ v = omega arith in ap size_of_side q

pub has_size : (v : ℕ) → (size_of_side v ≡ 6 → ⊥) → (size_of_side v < 6) × (v ≤ 32)
has_size v h = (omega (arith, size_from_lem 6 0 v, h), go (ltb 32 v) refl)
  where
    go : (x : Bool) → ltb 32 v ≡ x → v ≤ 32
    go true e = absurd (h (large_side v (ltb-true 32 v e)))
    go false e = ltb-false 32 v e

-- what a header has
pub record Headers (t : List ℕ) : Type 0 where
  pub plain : is_plain t ≡ true
  pub wide : is_field (at_width t) ≡ true
  pub high : is_field (at_height t) ≡ true
  pub sized : size t < 6
  pub square : field (at_height t) ≡ field (at_width t)

-- the ways in which a text has no header, and the way in which it has one
module _ (t : List ℕ) where
  pub no_plain : is_plain t ≡ false → is_header t ≡ false
  unfolding is_header
  no_plain e = and_first _ _ (and_first _ _ (and_first _ _ (and_first _ _ e)))

  pub no_width : is_field (at_width t) ≡ false → is_header t ≡ false
  unfolding is_header
  no_width e = and_first _ _ (and_first _ _ (and_first _ _ (and_second (is_plain t) _ e)))

  pub no_height : is_field (at_height t) ≡ false → is_header t ≡ false
  unfolding is_header
  no_height e = and_first _ _ (and_first _ _ (and_second (is_plain t && is_field (at_width t)) _ e))

  pub no_size : size t ≡ 6 → is_header t ≡ false
  unfolding is_header
  no_size e = and_first _ _ (and_second (is_plain t && is_field (at_width t) && is_field (at_height t)) _ (le-ltb (size t) 6 (omega arith)))

  pub no_square : (field (at_height t) ≡ field (at_width t) → ⊥) → is_header t ≡ false
  unfolding is_header
  no_square e = and_second (is_plain t && is_field (at_width t) && is_field (at_height t) && ltb (size t) 6) _ (ne_eqb _ _ e)

  pub all-header : is_plain t ≡ true → is_field (at_width t) ≡ true → is_field (at_height t) ≡ true → size t < 6 → field (at_height t) ≡ field (at_width t) → is_header t ≡ true
  unfolding is_header
  all-header p w h s e = both_and _ _ (both_and _ _ (both_and _ _ (both_and _ _ p w) h) (lt-ltb (size t) 6 s)) (eq-eqb _ _ e)

  pub header-all : is_header t ≡ true → Headers t
  unfolding is_header
  header-all e =
      let a = and_both (is_plain t && is_field (at_width t) && is_field (at_height t) && ltb (size t) 6) _ e in
      let b = and_both (is_plain t && is_field (at_width t) && is_field (at_height t)) _ a.0 in
      let c = and_both (is_plain t && is_field (at_width t)) _ b.0 in
      let d = and_both (is_plain t) _ c.0 in
      record { plain = d.0; wide = d.1; high = c.1; sized = ltb-true _ _ b.1; square = eqb-true _ _ a.1 }

-- numbers that are equal when counted to 33, one of them a side, are equal
pub same_number : (v w : ℕ) → capped v ≡ capped w → w ≤ 32 → v ≡ w
same_number v w e h = omega arith

-- a picture has no more than 1,024 cells
pub few_cells : (n : ℕ) → n < 6 → 4 ^ n ≤ 1024
few_cells n h = let l : n ≤ 5 = omega arith in pow-le-pow_right (omega arith) l
