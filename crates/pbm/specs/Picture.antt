-- What a plain PBM picture is, apart from how it is read: the header, and the cells.
use Rattle.std.specs.Prelude.{◌≡◌, true, not, List, [], ◌∷◌, ◌++◌, ℕ, ◌+◌, ◌*◌, ◌-◌, ◌^◌, ◌≤◌, ◌<◌, length}
use Rattle.std.specs.List.{list_all}
use Rattle.refusal.specs.Rules as rule
use Rattle.refusal.specs.Answer.{Answer, gives, refuses}
use Rattle.pbm.specs.Bytes.{is_space, ends_line, is_digit, is_cell, hash, zero_digit, longest, sizes}

-- `#` up to the next LF or CR
pub record Comment (t : List ℕ) : Type 0 where
  pub body : List ℕ
  pub end : ℕ
  pub is : t ≡ hash ∷ (body ++ end ∷ [])
  pub within : list_all (λ b. not (ends_line b)) body ≡ true
  pub ends : ends_line end ≡ true

-- in a header a comment counts as white space
pub data Blank : List ℕ → Type 0 where
  byte : {b : ℕ} → is_space b ≡ true → Blank (b ∷ [])
  comment : {t : List ℕ} → Comment t → Blank t

pub data Blanks : List ℕ → Type 0 where
  one : {t : List ℕ} → Blank t → Blanks t
  more : {s t : List ℕ} → Blank s → Blanks t → Blanks (s ++ t)

-- a number in decimal digits, leading zeros allowed
unfoldable pub decimal : ℕ → List ℕ → ℕ
decimal v [] = v
decimal v (b ∷ t) = decimal (10 * v + (b - zero_digit)) t

pub record Decimal (v : ℕ) (t : List ℕ) : Type 0 where
  pub some : 0 < length t
  pub digits : list_all is_digit t ≡ true
  pub is : decimal 0 t ≡ v

-- `P1`, then width, then height, each followed by white space; the first white space byte or comment after the height ends it
pub record Header (w h : ℕ) (t : List ℕ) : Type 0 where
  pub first : List ℕ
  pub wide : List ℕ
  pub second : List ℕ
  pub high : List ℕ
  pub last : List ℕ
  pub is : t ≡ 80 ∷ 49 ∷ (first ++ (wide ++ (second ++ (high ++ last))))
  pub after_p1 : Blanks first
  pub width : Decimal w wide
  pub after_width : Blanks second
  pub height : Decimal h high
  pub after_height : Blank last

-- cells, together or apart
pub data Cells : List ℕ → List ℕ → Type 0 where
  none : Cells [] []
  space : {b : ℕ} {t l : List ℕ} → is_space b ≡ true → Cells t l → Cells (b ∷ t) l
  cell : {b : ℕ} {t l : List ℕ} → is_cell b ≡ true → Cells t l → Cells (b ∷ t) ((b - zero_digit) ∷ l)

-- the picture itself: its size n, and the colours of its 2 ^ n by 2 ^ n cells, row by row
pub record Picture : Type 0 where
  pub of_size : ℕ
  pub of_cells : List ℕ

-- equal width and height, a power of two from 1 to 32, and so many cells
pub record IsPicture (t : List ℕ) (p : Picture) : Type 0 where
  pub short : length t ≤ longest
  pub header : List ℕ
  pub raster : List ℕ
  pub is : t ≡ header ++ raster
  pub heads : Header (2 ^ p.of_size) (2 ^ p.of_size) header
  pub size : p.of_size < sizes
  pub cells : Cells raster p.of_cells
  pub all : length p.of_cells ≡ 4 ^ p.of_size

-- which answer may be given, and when
pub data Reads (t : List ℕ) : Answer Picture → Type 0 where
  unread : ((p : Picture) → IsPicture t p → ⊥) → Reads t (refuses rule.picture_text 0)
  right : {p : Picture} → IsPicture t p → Reads t (gives p)
