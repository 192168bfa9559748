-- What a picture text is read as: a size and cells, or nothing.
use Rattle.std.specs.Prelude.{Bool, true, false, ◌&&◌, ◌||◌, not, cond, List, [], ◌∷◌, ℕ, zero, suc, ◌+◌, ◌*◌, ◌-◌, ◌^◌, ltb, eqb, length, drop, map, filter}
use Rattle.std.specs.List.{list_all}
use Rattle.refusal.specs.Rules as rule
use Rattle.refusal.specs.Answer.{Answer, gives, refuse_if}
use Rattle.pbm.specs.Picture.{Picture}
use Rattle.pbm.specs.Bytes.{is_space, ends_line, is_digit, is_cell, hash, zero_digit, longest, sizes}

-- what follows a comment: it goes up to the next LF or CR
unfoldable pub past_comment : List ℕ → List ℕ
past_comment [] = []
past_comment (b ∷ t) = cond (ends_line b) t (past_comment t)

-- what follows the white space and the comments in front of a text; `comment` says that a comment goes on there
unfoldable pub past_blanks : Bool → List ℕ → List ℕ
past_blanks comment [] = []
past_blanks true (b ∷ t) = cond (ends_line b) (past_blanks false t) (past_blanks true t)
past_blanks false (b ∷ t) = cond (is_space b) (past_blanks false t) (cond (eqb b hash) (past_blanks true t) (b ∷ t))

-- white space or a comment stands in front
unfoldable pub blank : List ℕ → Bool
blank [] = false
blank (b ∷ t) = is_space b || eqb b hash

-- what follows one byte of white space or one comment
unfoldable pub past_blank : List ℕ → List ℕ
past_blank [] = []
past_blank (b ∷ t) = cond (eqb b hash) (past_comment t) t

-- what follows the digits in front of a text; and their number, after digits whose number is v
unfoldable pub past_digits : List ℕ → List ℕ
past_digits [] = []
past_digits (b ∷ t) = cond (is_digit b) (past_digits t) (b ∷ t)

unfoldable pub number : ℕ → List ℕ → ℕ
number v [] = v
number v (b ∷ t) = cond (is_digit b) (number (10 * v + (b - zero_digit)) t) v

-- a field of the header: white space, then digits, followed by white space
abbrev pub past_field : List ℕ → List ℕ
past_field t = past_digits (past_blanks false t)

abbrev pub is_field : List ℕ → Bool
is_field t = blank t && blank (past_field t)

abbrev pub field : List ℕ → ℕ
field t = number 0 (past_blanks false t)

-- the size whose side is v, from n on; `sizes` if none is
unfoldable pub size_from : ℕ → ℕ → ℕ → ℕ
size_from zero n v = n
size_from (suc more) n v = cond (eqb v (2 ^ n)) n (size_from more (suc n) v)

abbrev pub size_of_side : ℕ → ℕ
size_of_side v = size_from sizes 0 v

-- the text begins with `P1`
unfoldable pub is_plain : List ℕ → Bool
is_plain [] = false
is_plain (p ∷ []) = false
is_plain (p ∷ one ∷ t) = eqb p 80 && eqb one 49

-- the width stands past `P1`, the height past the width, and the cells past what ends the header
abbrev pub at_width : List ℕ → List ℕ
at_width t = drop 2 t

abbrev pub at_height : List ℕ → List ℕ
at_height t = past_field (at_width t)

abbrev pub at_cells : List ℕ → List ℕ
at_cells t = past_blank (past_field (at_height t))

-- the size, by the width
abbrev pub size : List ℕ → ℕ
size t = size_of_side (field (at_width t))

-- a header: `P1`, width and height; they are equal, and the side of a size
unfoldable pub is_header : List ℕ → Bool
is_header t = is_plain t && is_field (at_width t) && is_field (at_height t) && ltb (size t) sizes && eqb (field (at_height t)) (field (at_width t))

-- cells, together or apart, and nothing else
abbrev pub only_cells : List ℕ → Bool
only_cells t = list_all (λ b. is_space b || is_cell b) t

-- the bytes that stand for cells, and the cells
abbrev pub cell_bytes : List ℕ → List ℕ
cell_bytes t = filter (λ b. not (is_space b)) t

abbrev pub cells : List ℕ → List ℕ
cells t = map (λ b. b - zero_digit) (cell_bytes t)

-- the picture that a text is read as; else it is refused
abbrev pub unread : Bool → Answer Picture → Answer Picture
unread test after = refuse_if test rule.picture_text 0 after

unfoldable pub picture : List ℕ → Answer Picture
picture t =
    unread (ltb longest (length t))
    (unread (not (is_header t))
    (unread (not (only_cells (at_cells t)))
    (unread (not (eqb (length (cells (at_cells t))) (4 ^ size t)))
    (gives (record { of_size = size t; of_cells = cells (at_cells t) })))))
