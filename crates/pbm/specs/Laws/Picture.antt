-- The ways in which a text is not read, and the way in which it is.
use Rattle.std.specs.Prelude.{◌≡◌, refl, Bool, true, false, not, List, ◌++◌, ◌⊎◌, ℕ, ◌^◌, ◌≤◌, ◌<◌, ltb, eqb, length, take, drop}
use Rattle.std.proofs.Common.{ap, ap₂, ◌∙◌, subst, inl, inr, arith, length-append, sym}
use Rattle.std.proofs.Math.Seq.{take-append_seam}
use borrow.Author.Tests.{lt-ltb, le-ltb, eq-eqb, ne_eqb, eqb-true, ltb-false, not-false}
use Rattle.refusal.specs.Rules as rule
use Rattle.refusal.specs.Answer.{Answer, gives, refuses}
use Rattle.pbm.specs.Bytes.{longest}
use Rattle.pbm.specs.Reading.{is_header, only_cells, at_cells, cells, size, unread, picture}
use Rattle.pbm.specs.Picture.{Picture}
use Rattle.pbm.specs.Answers.{size_given, cells_given}
use Rattle.pbm.specs.Laws.Header.{Headers, header-all}
use Rattle.shortest.specs.Outcome.{left}

-- what is known of the picture tells the answer and the memory
pub tells : {x a : Answer Picture} → x ≡ a → (old : List ℕ) → (size_given a ≡ size_given x) × (left (cells_given a) old ≡ left (cells_given x) old)
tells e old = (sym (ap size_given e), sym (ap (λ y. left (cells_given y) old) e))

module _ (t : List ℕ) where
  pub too_long : longest < length t → picture t ≡ refuses rule.picture_text 0
  unfolding picture
  too_long h = rw (lt-ltb longest (length t) h)

  module _ (short : length t ≤ longest) where
    pub no_header : is_header t ≡ false → picture t ≡ refuses rule.picture_text 0
    unfolding picture
    no_header e = rw (le-ltb longest (length t) short, e)

    module _ (header : is_header t ≡ true) where
      pub not_only_cells : only_cells (at_cells t) ≡ false → picture t ≡ refuses rule.picture_text 0
      unfolding picture
      not_only_cells e = rw (le-ltb longest (length t) short, header, e)

      module _ (only : only_cells (at_cells t) ≡ true) where
        pub not_so_many : (length (cells (at_cells t)) ≡ 4 ^ size t → ⊥) → picture t ≡ refuses rule.picture_text 0
        unfolding picture
        not_so_many e = rw (le-ltb longest (length t) short, header, only, ne_eqb (length (cells (at_cells t))) (4 ^ size t) e)

        pub reads_picture : length (cells (at_cells t)) ≡ 4 ^ size t → picture t ≡ gives (record { of_size = size t; of_cells = cells (at_cells t) })
        unfolding picture
        reads_picture e = rw (le-ltb longest (length t) short, header, only, eq-eqb (length (cells (at_cells t))) (4 ^ size t) e)

unread_gives : (b : Bool) (after : Answer Picture) (p : Picture) → unread b after ≡ gives p → (b ≡ false) × (after ≡ gives p)
unread_gives false after p e = (refl, e)
unread_gives true after p e = cc

-- what is known of a text that is read as p
pub record Parts (t : List ℕ) (p : Picture) : Type 0 where
  pub short : length t ≤ longest
  pub headers : Headers t
  pub only : only_cells (at_cells t) ≡ true
  pub all : length (cells (at_cells t)) ≡ 4 ^ size t
  pub same : record { of_size = size t; of_cells = cells (at_cells t) } ≡ p

pub picture_parts : (t : List ℕ) (p : Picture) → picture t ≡ gives p → Parts t p
unfolding picture
picture_parts t p e =
    let a = unread_gives (ltb longest (length t)) _ p e in
    let b = unread_gives (not (is_header t)) _ p a.1 in
    let c = unread_gives (not (only_cells (at_cells t))) _ p b.1 in
    let d = unread_gives (not (eqb (length (cells (at_cells t))) (4 ^ size t))) _ p c.1 in
    record { short = ltb-false _ _ a.0; headers = header-all t (not-false _ b.0); only = not-false _ c.0; all = eqb-true _ _ (not-false _ d.0); same = same_given _ p d.1 }
  where
    same_given : (x y : Picture) → gives x ≡ gives y → x ≡ y
    same_given x y q = cc

-- a picture that is read has a size, and so many cells
pub record Whole (p : Picture) : Type 0 where
  pub sized : p.of_size < 6
  pub all : length p.of_cells ≡ 4 ^ p.of_size

pub picture-whole : (t : List ℕ) (p : Picture) → picture t ≡ gives p → Whole p
picture-whole t p e = let q = picture_parts t p e in subst Whole q.same (record { sized = q.headers.sized; all = q.all })

-- a text is read or refused, and there is one refusal
pub read_or_refused : (t : List ℕ) → (picture t ≡ refuses rule.picture_text 0) ⊎ ((p : Picture) × (picture t ≡ gives p))
unfolding picture
read_or_refused t =
    go (ltb longest (length t)) _ (go (not (is_header t)) _ (go (not (only_cells (at_cells t))) _ (go (not (eqb (length (cells (at_cells t))) (4 ^ size t))) _ (inr (_, refl)))))
  where
    go : (b : Bool) (after : Answer Picture) → (after ≡ refuses rule.picture_text 0) ⊎ ((p : Picture) × (after ≡ gives p)) → (unread b after ≡ refuses rule.picture_text 0) ⊎ ((p : Picture) × (unread b after ≡ gives p))
    go true after x = inl refl
    go false after x = x

-- what the answer tells of the picture
pub given_picture : (x : Answer Picture) (n : ℕ) → gives n ≡ size_given x → (p : Picture) × (x ≡ gives p) × (n ≡ p.of_size)
given_picture (gives p) n e = (p, refl, cc)
given_picture (refuses r k) n e = cc

pub refused_picture : (x : Answer Picture) (r k : ℕ) → refuses r k ≡ size_given x → x ≡ refuses r k
refused_picture (gives p) r k e = cc
refused_picture (refuses r' k') r k e = cc

-- what stands at the front of the memory, taken back
pub front : (l old new : List ℕ) (k : ℕ) → k ≡ length l → new ≡ l ++ drop (length l) old → (k ≤ length new) × (take k new ≡ l)
front l old new k q e = (omega (arith, ap length e, length-append l (drop (length l) old)), ap₂ take q e ∙ take-append_seam l (drop (length l) old))
