-- A text is read exactly if it is a picture, and then as that picture.
use Rattle.std.specs.Prelude.{◌≡◌, refl, Bool, true, false, ◌||◌, not, cond, List, [], ◌∷◌, ◌++◌, ◌⊎◌, ℕ, zero, suc, ◌+◌, ◌*◌, ◌-◌, ◌^◌, ◌<◌, eqb, leb, length, drop, map, filter}
use Rattle.std.proofs.Common.{sym, ap, ap₂, ◌∙◌, subst, append_assoc, inl, inr, ⊎_elim, arith, eqb-true, ne_eqb, leb-true}
use Rattle.std.proofs.lemmas.Bool.{false≢true, not-true}
use Rattle.std.proofs.Math.Nat.{one-le-pow}
use Rattle.std.specs.List.{list_all}
use Rattle.refusal.specs.Answer.{Answer, gives, refuses}
use Rattle.tiling.specs.Laws.Tests.{and_both, both_and, or_either}
use Rattle.pbm.specs.Bytes.{is_space, ends_line, is_digit, is_cell, hash, zero_digit}
use Rattle.pbm.specs.Reading.{past_comment, past_blanks, blank, past_blank, past_digits, number, past_field, is_field, field, size_from, size_of_side, is_plain, at_width, at_height, at_cells, size, only_cells, cells, picture}
use Rattle.pbm.specs.Picture.{Comment, Blank, Blanks, decimal, Decimal, Header, Cells, IsPicture, Reads, Picture}
use Rattle.pbm.specs.Laws.Text.{comment_past}
use Rattle.pbm.specs.Laws.Header.{all-header, plain-drop}
use Rattle.pbm.specs.Laws.Picture.{reads_picture, Parts, picture_parts, read_or_refused}

-- a digit is neither white space nor the beginning of a comment
digit_apart : (b : ℕ) → is_digit b ≡ true → (is_space b ≡ false) × (eqb b hash ≡ false)
digit_apart b d =
    let l = leb-true 48 b (and_both (leb 48 b) (leb b 57) d).0 in (
      rw (ne_eqb b 32 (λ e. omega arith), ne_eqb b 9 (λ e. omega arith), ne_eqb b 10 (λ e. omega arith), ne_eqb b 11 (λ e. omega arith), ne_eqb b 12 (λ e. omega arith), ne_eqb b 13 (λ e. omega arith)),
      ne_eqb b hash (λ e. omega arith),
    )

space_apart : (b : ℕ) → is_space b ≡ true → eqb b hash ≡ false
space_apart b e = ne_eqb b hash (λ q. false≢true (sym (ap is_space q) ∙ e))

-- ---- white space in front of u is passed

past_comment_lem : (body : List ℕ) (end : ℕ) (u : List ℕ) → list_all (λ b. not (ends_line b)) body ≡ true → ends_line end ≡ true → past_comment (body ++ end ∷ u) ≡ u
unfolding past_comment
past_comment_lem [] end u w e = rw e
past_comment_lem (b ∷ t) end u w e =
    let q = and_both (not (ends_line b)) _ w in
    rw (not-true (ends_line b) q.0) (past_comment_lem t end u q.1 e)

comment_gone : {s : List ℕ} → Comment s → (u : List ℕ) → (t : List ℕ) × (s ++ u ≡ hash ∷ t) × (past_comment t ≡ u)
comment_gone c u = (c.body ++ (c.end ∷ u), ap (λ x. x ++ u) c.is ∙ ap (λ x. hash ∷ x) (append_assoc c.body (c.end ∷ []) u), past_comment_lem c.body c.end u c.within c.ends)

blank_gone : {s : List ℕ} → Blank s → (u : List ℕ) → past_blanks false (s ++ u) ≡ past_blanks false u
unfolding past_blanks
blank_gone (Blank.byte e) u = rw e
blank_gone (Blank.comment c) u = let g = comment_gone c u in rw g.1 (comment_past g.0 ∙ ap (past_blanks false) g.2)

blank-first : {s : List ℕ} → Blank s → (u : List ℕ) → blank (s ++ u) ≡ true
unfolding blank
blank-first (Blank.byte e) u = rw e
blank-first (Blank.comment c) u = rw (comment_gone c u).1

blank_past : {s : List ℕ} → Blank s → (u : List ℕ) → past_blank (s ++ u) ≡ u
unfolding past_blank
blank_past (Blank.byte {b = b} e) u = rw (space_apart b e)
blank_past (Blank.comment c) u = let g = comment_gone c u in rw g.1 g.2

blanks_gone : {s : List ℕ} → Blanks s → (u : List ℕ) → past_blanks false (s ++ u) ≡ past_blanks false u
blanks_gone (Blanks.one b) u = blank_gone b u
blanks_gone (Blanks.more {s = s} {t = t} b r) u = ap (past_blanks false) (append_assoc s t u) ∙ blank_gone b (t ++ u) ∙ blanks_gone r u

blanks_first : {s : List ℕ} → Blanks s → (u : List ℕ) → blank (s ++ u) ≡ true
blanks_first (Blanks.one b) u = blank-first b u
blanks_first (Blanks.more {s = s} {t = t} b r) u = ap blank (append_assoc s t u) ∙ blank-first b (t ++ u)

-- ---- digits in front of white space are passed

blank_digit : (b : ℕ) → (is_space b || eqb b hash) ≡ true → is_digit b ≡ false
blank_digit b e = go (is_digit b) refl
  where
    go : (x : Bool) → is_digit b ≡ x → is_digit b ≡ false
    go false d = d
    go true d = let a = digit_apart b d in absurd (false≢true (sym (ap₂ ◌||◌ a.0 a.1) ∙ e))

digits_gone : (d u : List ℕ) (v : ℕ) → list_all is_digit d ≡ true → blank u ≡ true → (past_digits (d ++ u) ≡ u) × (number v (d ++ u) ≡ decimal v d)
unfolding past_digits number decimal blank
digits_gone [] [] v e h = absurd (false≢true h)
digits_gone [] (b ∷ u) v e h = rw (blank_digit b h) (refl, refl)
digits_gone (b ∷ d) u v e h =
    let q = and_both (is_digit b) _ e in
    rw q.0 (digits_gone d u (10 * v + (b - zero_digit)) q.1 h)

digits_stay : (d u : List ℕ) → 0 < length d → list_all is_digit d ≡ true → past_blanks false (d ++ u) ≡ d ++ u
unfolding past_blanks
digits_stay [] u h e = absurd (omega arith)
digits_stay (b ∷ d) u h e = let a = digit_apart b (and_both (is_digit b) _ e).0 in rw (a.0, a.1)

-- a field is read
field_read : {s d : List ℕ} {v : ℕ} → Blanks s → Decimal v d → (u : List ℕ) → blank u ≡ true
    → (is_field (s ++ (d ++ u)) ≡ true) × (field (s ++ (d ++ u)) ≡ v) × (past_field (s ++ (d ++ u)) ≡ u)
field_read {s} {d} {v} b n u h =
    let p = blanks_gone b (d ++ u) ∙ digits_stay d u n.some n.digits in
    let g = digits_gone d u 0 n.digits h in
    let q = ap past_digits p ∙ g.0 in
    (both_and _ _ (blanks_first b (d ++ u)) (ap blank q ∙ h), ap (number 0) p ∙ g.1 ∙ n.is, q)

-- ---- cells are read

cell_digit : (b : ℕ) → is_cell b ≡ true → is_digit b ≡ true
cell_digit b e = ⊎_elim (λ x. rw (eqb-true b 48 x)) (λ x. rw (eqb-true b 49 x)) (or_either (eqb b 48) (eqb b 49) e)

cells_read : {t l : List ℕ} → Cells t l → (only_cells t ≡ true) × (cells t ≡ l)
cells_read Cells.none = (refl, refl)
cells_read (Cells.space e r) = rw e (cells_read r)
cells_read (Cells.cell {b = b} e r) = let q = cells_read r in rw ((digit_apart b (cell_digit b e)).0, e) (q.0, ap (λ l. (b - zero_digit) ∷ l) q.1)

side_size : (n : ℕ) → n < 6 → size_of_side (2 ^ n) ≡ n
unfolding size_from
side_size zero h = refl
side_size (suc zero) h = refl
side_size (suc (suc zero)) h = refl
side_size (suc (suc (suc zero))) h = refl
side_size (suc (suc (suc (suc zero)))) h = refl
side_size (suc (suc (suc (suc (suc zero))))) h = refl
side_size (suc (suc (suc (suc (suc (suc n)))))) h = absurd (omega arith)

-- ---- a picture is read as it is

module _ (t : List ℕ) (p : Picture) (i : IsPicture t p) where
  abbrev header : Header (2 ^ p.of_size) (2 ^ p.of_size) i.header
  header = i.heads

  -- past the header, from the end: the cells, the height, the width
  abbrev behind : List ℕ
  behind = header.last ++ i.raster

  abbrev tall : List ℕ
  tall = header.second ++ (header.high ++ behind)

  from_width : t ≡ 80 ∷ 49 ∷ (header.first ++ (header.wide ++ tall))
  from_width = i.is ∙ ap (λ x. x ++ i.raster) header.is ∙ simp append_assoc

  width_read : (is_field (at_width t) ≡ true) × (field (at_width t) ≡ 2 ^ p.of_size) × (at_height t ≡ tall)
  width_read =
      let w = field_read header.after_p1 header.width tall (blanks_first header.after_width (header.high ++ behind)) in
      rw (ap (drop 2) from_width) w

  height_read : (is_field (at_height t) ≡ true) × (field (at_height t) ≡ 2 ^ p.of_size) × (at_cells t ≡ i.raster)
  height_read =
      let h = field_read header.after_width header.height behind (blank-first header.after_height i.raster) in
      rw width_read.2 (h.0, h.1, ap past_blank h.2 ∙ blank_past header.after_height i.raster)

  size_read : size t ≡ p.of_size
  size_read = ap size_of_side width_read.1 ∙ side_size p.of_size i.size

  plain_read : is_plain t ≡ true
  unfolding is_plain
  plain_read = rw from_width

  pub is_read : picture t ≡ gives p
  is_read =
      let c = cells_read i.cells in
      let h = all-header t plain_read width_read.0 height_read.0 (omega (arith, size_read, i.size)) (height_read.1 ∙ sym width_read.1) in
      let e = ap cells height_read.2 ∙ c.1 in
      reads_picture t i.short h (ap only_cells height_read.2 ∙ c.0) (ap length e ∙ i.all ∙ ap (λ n. 4 ^ n) (sym size_read))
      ∙ ap₂ (λ n l. gives (record { of_size = n; of_cells = l })) size_read e

-- ---- what is read is a picture

digits_front : (u : List ℕ) (v : ℕ) → (d : List ℕ) × (list_all is_digit d ≡ true) × (u ≡ d ++ past_digits u) × (number v u ≡ decimal v d)
unfolding past_digits number decimal
digits_front [] v = ([], refl, refl, refl)
digits_front (b ∷ u) v = go (is_digit b) refl (digits_front u (10 * v + (b - zero_digit)))
  where
    go : (x : Bool) → is_digit b ≡ x → ((d : List ℕ) × (list_all is_digit d ≡ true) × (u ≡ d ++ past_digits u) × (number (10 * v + (b - zero_digit)) u ≡ decimal (10 * v + (b - zero_digit)) d))
        → (d : List ℕ) × (list_all is_digit d ≡ true) × (b ∷ u ≡ d ++ cond x (past_digits u) (b ∷ u)) × (cond x (number (10 * v + (b - zero_digit)) u) v ≡ decimal v d)
    go true e (d, a, q, n) = (b ∷ d, both_and _ _ e a, ap (λ x. b ∷ x) q, n)
    go false e r = ([], refl, refl, refl)

comment_front : (y : List ℕ) (c : ℕ) (r : List ℕ) → past_comment y ≡ c ∷ r
    → (body : List ℕ) × (end : ℕ) × (list_all (λ b. not (ends_line b)) body ≡ true) × (ends_line end ≡ true) × (y ≡ body ++ end ∷ (c ∷ r))
unfolding past_comment
comment_front [] c r e = cc
comment_front (b ∷ y) c r e = go (ends_line b) refl (comment_front y c r) e
  where
    go : (x : Bool) → ends_line b ≡ x
        → (past_comment y ≡ c ∷ r → (body : List ℕ) × (end : ℕ) × (list_all (λ b. not (ends_line b)) body ≡ true) × (ends_line end ≡ true) × (y ≡ body ++ end ∷ (c ∷ r)))
        → cond x y (past_comment y) ≡ c ∷ r
        → (body : List ℕ) × (end : ℕ) × (list_all (λ b. not (ends_line b)) body ≡ true) × (ends_line end ≡ true) × (b ∷ y ≡ body ++ end ∷ (c ∷ r))
    go true q f h = ([], b, refl, q, ap (λ x. b ∷ x) h)
    go false q f h = let g = f h in (b ∷ g.0, g.1, both_and _ _ (ap not q) g.2, g.3, ap (λ x. b ∷ x) g.4)

-- in front of u there is nothing to be passed, or white space
abbrev Front : List ℕ → List ℕ → Type 0
Front x u = ((blank x ≡ false) × (x ≡ u)) ⊎ ((s : List ℕ) × Blanks s × (x ≡ s ++ u))

-- a comment goes on, and then the same
abbrev Within : List ℕ → List ℕ → Type 0
Within x u = (body : List ℕ) × (end : ℕ) × (z : List ℕ) × (list_all (λ b. not (ends_line b)) body ≡ true) × (ends_line end ≡ true) × (x ≡ body ++ end ∷ z) × Front z u

-- what stands before the rest in the front of a text that begins with one blank
after_blank : {s z u : List ℕ} → Blank s → Front z u → Front (s ++ z) u
after_blank {s} {z} {u} b (inl q) = inr (s, Blanks.one b, ap (λ x. s ++ x) q.1)
after_blank {s} {z} {u} b (inr (t, r, q)) = inr (s ++ t, Blanks.more b r, ap (λ x. s ++ x) q ∙ sym (append_assoc s t u))

comment_whole : (body : List ℕ) (end : ℕ) → list_all (λ b. not (ends_line b)) body ≡ true → ends_line end ≡ true → Blank (hash ∷ (body ++ end ∷ []))
comment_whole body end w e = Blank.comment (record { body = body; end = end; is = refl; within = w; ends = e })

abbrev FrontOf : Bool → List ℕ → List ℕ → Type 0
FrontOf false x u = Front x u
FrontOf true x u = Within x u

blanks_front : (m : Bool) (x : List ℕ) (c : ℕ) (r : List ℕ) → past_blanks m x ≡ c ∷ r → FrontOf m x (c ∷ r)
unfolding past_blanks blank
blanks_front m [] c r e = cc
blanks_front true (b ∷ x) c r e = go (ends_line b) refl (blanks_front false x c r) (blanks_front true x c r) e
  where
    go : (y : Bool) → ends_line b ≡ y → (past_blanks false x ≡ c ∷ r → Front x (c ∷ r)) → (past_blanks true x ≡ c ∷ r → Within x (c ∷ r))
        → cond y (past_blanks false x) (past_blanks true x) ≡ c ∷ r → Within (b ∷ x) (c ∷ r)
    go true q f g h = ([], b, x, refl, q, refl, f h)
    go false q f g h = let w = g h in (b ∷ w.0, w.1, w.2, both_and _ _ (ap not q) w.3, w.4, ap (λ y. b ∷ y) w.5, w.6)
blanks_front false (b ∷ x) c r e = go (is_space b) refl (eqb b hash) refl (blanks_front false x c r) (blanks_front true x c r) e
  where
    go : (y : Bool) → is_space b ≡ y → (z : Bool) → eqb b hash ≡ z → (past_blanks false x ≡ c ∷ r → Front x (c ∷ r)) → (past_blanks true x ≡ c ∷ r → Within x (c ∷ r))
        → cond y (past_blanks false x) (cond z (past_blanks true x) (b ∷ x)) ≡ c ∷ r → Front (b ∷ x) (c ∷ r)
    go true p z q f g h = after_blank (Blank.byte p) (f h)
    go false p true q f g h =
        let w = g h in
        let k = after_blank (comment_whole w.0 w.1 w.3 w.4) w.6 in
        let s : (hash ∷ (w.0 ++ w.1 ∷ [])) ++ w.2 ≡ b ∷ x = ap₂ (λ y z. y ∷ z) (sym (eqb-true b hash q)) (append_assoc w.0 (w.1 ∷ []) w.2 ∙ sym w.5) in
        subst (λ y. Front y (c ∷ r)) s k
    go false p false q f g h = inl (ap₂ ◌||◌ p q, h)

-- a field with a number above 0 is white space and digits
field_front : (x : List ℕ) → is_field x ≡ true → 0 < field x → (s : List ℕ) × (d : List ℕ) × Blanks s × Decimal (field x) d × (x ≡ s ++ (d ++ past_field x))
unfolding decimal
field_front x e h = go (digits_front (past_blanks false x) 0)
  where
    go : ((d : List ℕ) × (list_all is_digit d ≡ true) × (past_blanks false x ≡ d ++ past_field x) × (field x ≡ decimal 0 d))
        → (s : List ℕ) × (d : List ℕ) × Blanks s × Decimal (field x) d × (x ≡ s ++ (d ++ past_field x))
    go ([], a, q, n) = absurd (omega arith)
    go (b ∷ d, a, q, n) = ⊎_elim
        (λ w. absurd (false≢true (sym w.0 ∙ (and_both (blank x) _ e).0)))
        (λ w. (w.0, b ∷ d, w.1, record { some = omega arith; digits = a; is = sym n }, w.2))
        (blanks_front false x b (d ++ past_field x) q)

-- one blank, if something follows it
blank_front : (y : List ℕ) → blank y ≡ true → 0 < length (past_blank y) → (s : List ℕ) × Blank s × (y ≡ s ++ past_blank y)
unfolding blank past_blank
blank_front [] e h = absurd (false≢true e)
blank_front (b ∷ y) e h = go (eqb b hash) refl h
  where
    follows : (u : List ℕ) → 0 < length u → (c : ℕ) × (r : List ℕ) × (u ≡ c ∷ r)
    follows [] k = absurd (omega arith)
    follows (c ∷ r) k = (c, r, refl)

    go : (x : Bool) → eqb b hash ≡ x → 0 < length (cond x (past_comment y) y) → (s : List ℕ) × Blank s × (b ∷ y ≡ s ++ cond x (past_comment y) y)
    go true q k =
        let n = follows (past_comment y) k in
        let w = comment_front y n.0 n.1 n.2 in
        (hash ∷ (w.0 ++ w.1 ∷ []), comment_whole w.0 w.1 w.2 w.3, ap₂ (λ x z. x ∷ z) (eqb-true b hash q) (w.4 ∙ ap (λ u. w.0 ++ w.1 ∷ u) (sym n.2) ∙ sym (append_assoc w.0 (w.1 ∷ []) (past_comment y))))
    go false q k = (b ∷ [], Blank.byte (⊎_elim (λ x. x) (λ x. absurd (false≢true (sym q ∙ x))) (or_either (is_space b) (eqb b hash) e)), refl)

cells_front : (x : List ℕ) → only_cells x ≡ true → Cells x (cells x)
cells_front [] e = Cells.none
cells_front (b ∷ x) e = let k = and_both (is_space b || is_cell b) _ e in go (is_space b) refl (cells_front x k.1) k.0
  where
    go : (y : Bool) → is_space b ≡ y → Cells x (cells x) → (is_space b || is_cell b) ≡ true → Cells (b ∷ x) (map (λ c. c - zero_digit) (cond (not y) (b ∷ filter (λ c. not (is_space c)) x) (filter (λ c. not (is_space c)) x)))
    go true q c k = Cells.space q c
    go false q c k = Cells.cell (⊎_elim (λ z. absurd (false≢true (sym q ∙ z))) (λ z. z) (or_either (is_space b) (is_cell b) k)) c

size_from_side : (more n v : ℕ) → size_from more n v < n + more → v ≡ 2 ^ size_from more n v
unfolding size_from
size_from_side zero n v h = absurd (omega arith)
size_from_side (suc more) n v h = go (eqb v (2 ^ n)) refl (size_from_side more (suc n) v) h
  where
    go : (x : Bool) → eqb v (2 ^ n) ≡ x → (size_from more (suc n) v < suc n + more → v ≡ 2 ^ size_from more (suc n) v)
        → cond x n (size_from more (suc n) v) < n + suc more → v ≡ 2 ^ cond x n (size_from more (suc n) v)
    go true q f k = eqb-true v (2 ^ n) q
    go false q f k = f (omega arith)

some_cells : (x : List ℕ) → 0 < length (cells x) → 0 < length x
some_cells [] h = h
some_cells (b ∷ x) h = omega arith

module _ (t : List ℕ) (p : Picture) (e : picture t ≡ gives p) where
  parts : Parts t p
  parts = picture_parts t p e

  side : field (at_width t) ≡ 2 ^ size t
  side = size_from_side 6 0 (field (at_width t)) parts.headers.sized

  some : 0 < 2 ^ size t
  some = one-le-pow (size t) 2 (omega arith)

  wide : (s : List ℕ) × (d : List ℕ) × Blanks s × Decimal (field (at_width t)) d × (at_width t ≡ s ++ (d ++ at_height t))
  wide = field_front (at_width t) parts.headers.wide (omega (arith, side, some))

  high : (s : List ℕ) × (d : List ℕ) × Blanks s × Decimal (field (at_height t)) d × (at_height t ≡ s ++ (d ++ past_field (at_height t)))
  high = field_front (at_height t) parts.headers.high (omega (arith, side, some, parts.headers.square))

  last : (s : List ℕ) × Blank s × (past_field (at_height t) ≡ s ++ at_cells t)
  last =
      let c : 0 < length (cells (at_cells t)) = omega (arith, parts.all, one-le-pow (size t) 4 (omega arith)) in
      blank_front (past_field (at_height t)) (and_both (blank (at_height t)) _ parts.headers.high).1 (some_cells (at_cells t) c)

  from_parts : t ≡ (80 ∷ 49 ∷ (wide.0 ++ (wide.1 ++ (high.0 ++ (high.1 ++ last.0))))) ++ at_cells t
  from_parts =
      plain-drop t parts.headers.plain
      ∙ ap (λ x. 80 ∷ 49 ∷ x) (wide.4 ∙ ap (λ x. wide.0 ++ (wide.1 ++ x)) (high.4 ∙ ap (λ x. high.0 ++ (high.1 ++ x)) last.2))
      ∙ simp append_assoc

  pub is_picture : IsPicture t p
  is_picture =
      subst (IsPicture t) parts.same
      (record {
        short = parts.short;
        header = 80 ∷ 49 ∷ (wide.0 ++ (wide.1 ++ (high.0 ++ (high.1 ++ last.0))));
        raster = at_cells t;
        is = from_parts;
        heads = record {
          first = wide.0;
          wide = wide.1;
          second = high.0;
          high = high.1;
          last = last.0;
          is = refl;
          after_p1 = wide.2;
          width = subst (λ v. Decimal v wide.1) side wide.3;
          after_width = high.2;
          height = subst (λ v. Decimal v high.1) (parts.headers.square ∙ side) high.3;
          after_height = last.1;
        };
        size = parts.headers.sized;
        cells = cells_front (at_cells t) parts.only;
        all = parts.all;
      })

-- ---- exactly

pub reads : (t : List ℕ) → Reads t (picture t)
reads t = ⊎_elim
    (λ e. rw e (Reads.unread (λ p i. let z : ◌≡◌ {A = ℕ} 0 1 = apart _ _ _ (sym e ∙ is_read t p i) in omega arith)))
    (λ g. rw g.1 (Reads.right (is_picture t g.0 g.1)))
    (read_or_refused t)
  where
    apart : (r k : ℕ) (p : Picture) → refuses r k ≡ gives p → ◌≡◌ {A = ℕ} 0 1
    apart r k p q = cc

pub from_reads : (t : List ℕ) (a : Answer Picture) → Reads t a → picture t ≡ a
from_reads t a (Reads.unread f) = ⊎_elim (λ e. e) (λ g. absurd (f g.0 (is_picture t g.0 g.1))) (read_or_refused t)
from_reads t a (Reads.right {p = p} i) = is_read t p i
