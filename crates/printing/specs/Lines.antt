-- The lines that are printed of a list: for each leaf its code in base 4 with n digits, its level and its colour.
use Rattle.std.specs.Prelude.{cond, List, [], ◌∷◌, ◌++◌, ℕ, zero, suc, ◌+◌, ◌/◌, ◌%◌, ltb, eqb, flat_map}
use Rattle.refusal.specs.Answer.{Answer, gives, refuses}
use Rattle.tiling.specs.Leaf.{code_of, level_of, colour_of}
use Rattle.shortest.specs.Shortest.{shortest}
use Rattle.rasters.specs.Raster.{pixel}
use Rattle.pbm.specs.Bytes.{zero_digit}
use Rattle.pbm.specs.Reading.{picture}
use Rattle.pbm.specs.Picture.{Picture}

-- the last k digits of v in a base, the first of them the highest
unfoldable pub digits : ℕ → ℕ → ℕ → List ℕ
digits base zero v = []
digits base (suc k) v = digits base k (v / base) ++ (zero_digit + v % base) ∷ []

-- how many decimal digits a number below 1,000 has
abbrev pub decimals : ℕ → ℕ
decimals v = cond (ltb v 10) 1 (cond (ltb v 100) 2 3)

-- with n digits, and a single one when n is 0
abbrev pub code_digits : ℕ → ℕ
code_digits n = cond (eqb n 0) 1 n

-- what stands after a number: a space, and at the line's end LF
abbrev pub space : ℕ
space = 32

abbrev pub new_line : ℕ
new_line = 10

abbrev pub numeral : ℕ → ℕ → ℕ → ℕ → List ℕ
numeral base k v end = digits base k v ++ end ∷ []

unfoldable pub line : ℕ → ℕ → List ℕ
line n w =
    numeral 4 (code_digits n) (code_of w) space
    ++ numeral 10 (decimals (level_of w)) (level_of w) space
    ++ numeral 10 (decimals (colour_of w)) (colour_of w) new_line

abbrev pub lines : ℕ → List ℕ → List ℕ
lines n ws = flat_map (line n) ws

-- `refused 11`
abbrev pub refused_line : List ℕ
refused_line = 114 ∷ 101 ∷ 102 ∷ 117 ∷ 115 ∷ 101 ∷ 100 ∷ 32 ∷ 49 ∷ 49 ∷ 10 ∷ []

-- what is printed for what a text was read as: the lines of the picture's shortest list
abbrev pub printed_of : Answer Picture → List ℕ
printed_of (gives p) = lines p.of_size (shortest (pixel p.of_size p.of_cells) p.of_size 0)
printed_of (refuses rule number) = refused_line

abbrev pub printed : List ℕ → List ℕ
printed t = printed_of (picture t)
