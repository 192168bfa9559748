-- A text: how what is left of it goes on past a comment or white space.
use Rattle.std.specs.Prelude.{◌≡◌, refl, Bool, true, false, cond, List, [], ◌∷◌, ℕ, suc, ◌+◌, ◌*◌, ◌-◌, ◌≤◌, ◌<◌, ◌||◌, not, eqb, ltb, length, drop, Some, None, get_or}
use Rattle.std.specs.List.{position, position_or_len}
use Rattle.std.proofs.Common.{sym, ap, ◌∙◌, arith, eqb-true, ltb-false, drop_of_length-le, ⊎_elim, drop-cons, ltb-true}
use Rattle.std.proofs.lemmas.Bool.{false≢true}
use Rattle.std.proofs.lemmas.Option.{cond_some}
use Rattle.pbm.specs.Bytes.{is_space, ends_line, is_digit, hash, zero_digit, is_cell}
use Rattle.pbm.specs.Reading.{past_comment, past_blanks, blank, past_blank, number, past_digits, only_cells, cells}
use Rattle.pbm.specs.Steps.{capped}
use Rattle.pbm.specs.Laws.Header.{capped_more}
use Rattle.std.proofs.Math.Numerals.{add-one}
use Rattle.tiling.specs.Laws.Tests.{and_both, or_either}

-- a comment that is past is followed by white space as if it had not been there
pub comment_past : (t : List ℕ) → past_blanks true t ≡ past_blanks false (past_comment t)
unfolding past_blanks past_comment
comment_past [] = refl
comment_past (b ∷ t) = go (ends_line b) (comment_past t)
  where
    go : (x : Bool) → past_blanks true t ≡ past_blanks false (past_comment t) → cond x (past_blanks false t) (past_blanks true t) ≡ past_blanks false (cond x t (past_comment t))
    go true e = refl
    go false e = e

-- a comment goes up to the first byte that ends it
pub comment-drop : (t : List ℕ) → past_comment t ≡ drop (position_or_len ends_line t + 1) t
unfolding past_comment
comment-drop [] = refl
comment-drop (b ∷ t) = go (ends_line b) (comment-drop t)
  where
    go : (x : Bool) → past_comment t ≡ drop (position_or_len ends_line t + 1) t → cond x t (past_comment t) ≡ drop (cond (not x) (1 + position_or_len ends_line t) 0 + 1) (b ∷ t)
    go true e = refl
    go false e = let k : 1 + position_or_len ends_line t + 1 ≡ suc (position_or_len ends_line t + 1) = omega arith in rw k e

pub comment_some : (t : List ℕ) (i : ℕ) → position ends_line t ≡ Some i → past_comment t ≡ drop (i + 1) t
comment_some t i e = comment-drop t ∙ ap (λ k. drop (k + 1) t) (cond_some _ _ _ e).1

pub comment_none : (t : List ℕ) → position ends_line t ≡ None → past_comment t ≡ []
comment_none t e = comment-drop t ∙ drop_of_length-le t (go (ltb (position_or_len ends_line t) (length t)) refl e)
  where
    go : (x : Bool) → ltb (position_or_len ends_line t) (length t) ≡ x → cond x (Some (position_or_len ends_line t)) None ≡ None → length t ≤ position_or_len ends_line t + 1
    go true q h = cc
    go false q h = omega (arith, ltb-false _ _ q)

pub comment-length : (t : List ℕ) → length (past_comment t) ≤ length t
unfolding past_comment
comment-length [] = omega arith
comment-length (b ∷ t) = go (ends_line b) (comment-length t)
  where
    go : (x : Bool) → length (past_comment t) ≤ length t → length (cond x t (past_comment t)) ≤ suc (length t)
    go true h = omega arith
    go false h = omega arith

-- past one byte of white space or one comment the text is shorter, and its white space goes on
pub blank_length : (t : List ℕ) → blank t ≡ true → length (past_blank t) < length t
unfolding blank past_blank
blank_length [] e = absurd (false≢true e)
blank_length (b ∷ t) e = go (eqb b hash)
  where
    go : (x : Bool) → length (cond x (past_comment t) t) < suc (length t)
    go true = omega (arith, comment-length t)
    go false = omega arith

pub blanks_more : (t : List ℕ) → blank t ≡ true → past_blanks false (past_blank t) ≡ past_blanks false t
unfolding past_blanks blank past_blank
blanks_more [] e = absurd (false≢true e)
blanks_more (b ∷ t) e = go (eqb b hash) refl e
  where
    go : (x : Bool) → eqb b hash ≡ x → is_space b || x ≡ true → past_blanks false (cond x (past_comment t) t) ≡ cond (is_space b) (past_blanks false t) (cond x (past_blanks true t) (b ∷ t))
    go true q h = rw (eqb-true b hash q) (sym (comment_past t))
    go false q h = either (is_space b) h
      where
        either : (y : Bool) → y || false ≡ true → past_blanks false t ≡ cond y (past_blanks false t) (b ∷ t)
        either true k = refl
        either false k = absurd (false≢true k)

pub blanks_none : (t : List ℕ) → blank t ≡ false → past_blanks false t ≡ t
unfolding past_blanks blank
blanks_none [] e = refl
blanks_none (b ∷ t) e = go (is_space b) (eqb b hash) e
  where
    go : (x y : Bool) → x || y ≡ false → cond x (past_blanks false t) (cond y (past_blanks true t) (b ∷ t)) ≡ b ∷ t
    go true y k = absurd (false≢true (sym k))
    go false true k = absurd (false≢true (sym k))
    go false false k = refl

-- a number goes on past one more digit; it may be counted to 33 before
pub capped_number : (v : ℕ) (t : List ℕ) → capped (number (capped v) t) ≡ capped (number v t)
unfolding number
capped_number v [] = omega arith
capped_number v (b ∷ t) =
    let d = b - zero_digit in
    let more : capped (number (10 * capped v + d) t) ≡ capped (number (10 * v + d) t) =
    sym (capped_number (10 * capped v + d) t) ∙ ap (λ u. capped (number u t)) (capped_more v d) ∙ capped_number (10 * v + d) t in
    elim (is_digit b) as (λ x. capped (cond x (number (10 * capped v + d) t) (capped v)) ≡ capped (cond x (number (10 * v + d) t) v)) [ true ↦ more | false ↦ omega arith ]

-- ---- one byte of a text: how each reading of what is left goes on past it

-- where the text ends
module _ (t : List ℕ) (i : ℕ) (h : length t ≤ i) where
  pub comment_end : past_comment (drop i t) ≡ drop i t
  unfolding past_comment
  comment_end = rw (drop_of_length-le t h)

  pub blanks_end : past_blanks false (drop i t) ≡ drop i t
  unfolding past_blanks
  blanks_end = rw (drop_of_length-le t h)

  pub blank-end : blank (drop i t) ≡ false
  unfolding blank
  blank-end = rw (drop_of_length-le t h)

  pub digits-end : past_digits (drop i t) ≡ drop i t
  unfolding past_digits
  digits-end = rw (drop_of_length-le t h)

  pub number-end : (v : ℕ) → number v (drop i t) ≡ v
  unfolding number
  number-end v = rw (drop_of_length-le t h)

  pub only_end : only_cells (drop i t) ≡ true
  only_end = rw (drop_of_length-le t h)

  pub cells-end : cells (drop i t) ≡ []
  cells-end = rw (drop_of_length-le t h)

-- before its end
module _ (t : List ℕ) (i : ℕ) (h : i < length t) where
  pub comment_last : ends_line (get_or t i 0) ≡ true → past_comment (drop i t) ≡ drop (i + 1) t
  unfolding past_comment
  comment_last e = rw (drop-cons t i 0 h, e, add-one)

  pub comment_more : ends_line (get_or t i 0) ≡ false → past_comment (drop i t) ≡ past_comment (drop (i + 1) t)
  unfolding past_comment
  comment_more e = rw (drop-cons t i 0 h, e, add-one)

  pub blanks_space : is_space (get_or t i 0) ≡ true → past_blanks false (drop i t) ≡ past_blanks false (drop (i + 1) t)
  unfolding past_blanks
  blanks_space e = rw (drop-cons t i 0 h, e, add-one)

  pub blanks_comment : is_space (get_or t i 0) ≡ false → eqb (get_or t i 0) hash ≡ true → past_blanks false (drop i t) ≡ past_blanks false (past_comment (drop (i + 1) t))
  unfolding past_blanks
  blanks_comment e k = rw (drop-cons t i 0 h, e, k, add-one) (comment_past (drop (suc i) t))

  pub blanks_other : is_space (get_or t i 0) ≡ false → eqb (get_or t i 0) hash ≡ false → past_blanks false (drop i t) ≡ drop i t
  unfolding past_blanks
  blanks_other e k = rw (drop-cons t i 0 h, e, k)

  pub blank_here : blank (drop i t) ≡ is_space (get_or t i 0) || eqb (get_or t i 0) hash
  unfolding blank
  blank_here = rw (drop-cons t i 0 h)

  pub blank_comment : eqb (get_or t i 0) hash ≡ true → past_blank (drop i t) ≡ past_comment (drop (i + 1) t)
  unfolding past_blank
  blank_comment e = rw (drop-cons t i 0 h, e, add-one)

  pub blank-space : eqb (get_or t i 0) hash ≡ false → past_blank (drop i t) ≡ drop (i + 1) t
  unfolding past_blank
  blank-space e = rw (drop-cons t i 0 h, e, add-one)

  pub digits_more : is_digit (get_or t i 0) ≡ true → past_digits (drop i t) ≡ past_digits (drop (i + 1) t)
  unfolding past_digits
  digits_more e = rw (drop-cons t i 0 h, e, add-one)

  pub digits_none : is_digit (get_or t i 0) ≡ false → past_digits (drop i t) ≡ drop i t
  unfolding past_digits
  digits_none e = rw (drop-cons t i 0 h, e)

  pub number_more : (v : ℕ) → is_digit (get_or t i 0) ≡ true → number v (drop i t) ≡ number (10 * v + (get_or t i 0 - zero_digit)) (drop (i + 1) t)
  unfolding number
  number_more v e = rw (drop-cons t i 0 h, e, add-one)

  pub number_none : (v : ℕ) → is_digit (get_or t i 0) ≡ false → number v (drop i t) ≡ v
  unfolding number
  number_none v e = rw (drop-cons t i 0 h, e)

  pub only_more : is_space (get_or t i 0) || is_cell (get_or t i 0) ≡ true → only_cells (drop i t) ≡ only_cells (drop (i + 1) t)
  only_more e = rw (drop-cons t i 0 h, e, add-one)

  -- where only cells follow, so they do past the byte
  pub only_rest : only_cells (drop i t) ≡ true → only_cells (drop (i + 1) t) ≡ true
  only_rest e =
      rw add-one (and_both (is_space (get_or t i 0) || is_cell (get_or t i 0)) (only_cells (drop (suc i) t)) (rw (drop-cons t i 0 h) at e)).1

  pub only_none : is_space (get_or t i 0) || is_cell (get_or t i 0) ≡ false → only_cells (drop i t) ≡ false
  only_none e = rw (drop-cons t i 0 h, e)

  pub cells-space : is_space (get_or t i 0) ≡ true → cells (drop i t) ≡ cells (drop (i + 1) t)
  cells-space e = rw (drop-cons t i 0 h, e, add-one)

  pub cells_more : is_space (get_or t i 0) ≡ false → cells (drop i t) ≡ (get_or t i 0 - zero_digit) ∷ cells (drop (i + 1) t)
  cells_more e = rw (drop-cons t i 0 h, e, add-one)

  -- a byte that is no white space is a cell, where only cells follow
  pub cell_here : only_cells (drop i t) ≡ true → is_space (get_or t i 0) ≡ false → zero_digit ≤ get_or t i 0
  cell_here e s = go (is_space (get_or t i 0) || is_cell (get_or t i 0)) refl
    where
      go : (x : Bool) → (is_space (get_or t i 0) || is_cell (get_or t i 0)) ≡ x → zero_digit ≤ get_or t i 0
      go true k = ⊎_elim (λ y. absurd (false≢true (sym s ∙ y))) (λ y. ⊎_elim (λ z. omega (arith, eqb-true (get_or t i 0) 48 z)) (λ z. omega (arith, eqb-true (get_or t i 0) 49 z)) (or_either (eqb (get_or t i 0) 48) (eqb (get_or t i 0) 49) y)) (or_either (is_space (get_or t i 0)) (is_cell (get_or t i 0)) k)
      go false k = absurd (false≢true (sym (only_none k) ∙ e))

-- where white space or a comment stands there is a byte
pub blank-within : (t : List ℕ) (i : ℕ) → blank (drop i t) ≡ true → i < length t
blank-within t i e = go (ltb i (length t)) refl
  where
    go : (x : Bool) → ltb i (length t) ≡ x → i < length t
    go true k = ltb-true i (length t) k
    go false k = absurd (false≢true (sym (blank-end t i (ltb-false i (length t) k)) ∙ e))
