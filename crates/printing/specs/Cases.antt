-- The paper's sample, and texts about it, in a table that antt computes.
use Rattle.std.specs.Prelude.{◌≡◌, refl, List, [], ◌∷◌, ◌++◌, ℕ}
use Rattle.shortest.specs.Shortest.{shortest, uniform, all}
use Rattle.rasters.specs.Raster.{pixel}
use Rattle.morton.specs.Code.{gathered}
use Rattle.pbm.specs.Reading.{past_comment, past_blanks, blank, past_blank, past_digits, number, size_from, is_plain, is_header, picture}
use Rattle.printing.specs.Lines.{digits, line, printed, refused_line}

-- 1100, 1101, 0011, 0011, each with LF
abbrev rows : List ℕ
rows = 49 ∷ 49 ∷ 48 ∷ 48 ∷ 10 ∷ 49 ∷ 49 ∷ 48 ∷ 49 ∷ 10 ∷ 48 ∷ 48 ∷ 49 ∷ 49 ∷ 10 ∷ 48 ∷ 48 ∷ 49 ∷ 49 ∷ 10 ∷ []

-- 00 1 1, 10 0 0, 11 0 0, 12 0 0, 13 0 1, 20 1 0, 30 1 1, each with LF
abbrev seven : List ℕ
seven =
    48 ∷ 48 ∷ 32 ∷ 49 ∷ 32 ∷ 49 ∷ 10
    ∷ 49 ∷ 48 ∷ 32 ∷ 48 ∷ 32 ∷ 48 ∷ 10
    ∷ 49 ∷ 49 ∷ 32 ∷ 48 ∷ 32 ∷ 48 ∷ 10
    ∷ 49 ∷ 50 ∷ 32 ∷ 48 ∷ 32 ∷ 48 ∷ 10
    ∷ 49 ∷ 51 ∷ 32 ∷ 48 ∷ 32 ∷ 49 ∷ 10
    ∷ 50 ∷ 48 ∷ 32 ∷ 49 ∷ 32 ∷ 48 ∷ 10
    ∷ 51 ∷ 48 ∷ 32 ∷ 49 ∷ 32 ∷ 49 ∷ 10
    ∷ []

abbrev with_rows : List ℕ → List ℕ
with_rows header = header ++ rows

abbrev texts : List (List ℕ)
texts =
    -- the sample: P1, 4 4
    with_rows (80 ∷ 49 ∷ 10 ∷ 52 ∷ 32 ∷ 52 ∷ 10 ∷ [])
    -- a comment against the height ends the header: P1, 4 4#c
    ∷ with_rows (80 ∷ 49 ∷ 10 ∷ 52 ∷ 32 ∷ 52 ∷ 35 ∷ 99 ∷ 10 ∷ [])
    -- behind a space it stands among the cells: P1, 4 4 #c
    ∷ with_rows (80 ∷ 49 ∷ 10 ∷ 52 ∷ 32 ∷ 52 ∷ 32 ∷ 35 ∷ 99 ∷ 10 ∷ [])
    -- a cell too many
    ∷ with_rows (80 ∷ 49 ∷ 10 ∷ 52 ∷ 32 ∷ 52 ∷ 10 ∷ 48 ∷ [])
    -- P4
    ∷ with_rows (80 ∷ 52 ∷ 10 ∷ 52 ∷ 32 ∷ 52 ∷ 10 ∷ [])
    -- P1 1 1 1, and no text at all
    ∷ (80 ∷ 49 ∷ 32 ∷ 49 ∷ 32 ∷ 49 ∷ 32 ∷ 49 ∷ [])
    ∷ []
    ∷ []

abbrev printed_all : List (List ℕ) → List (List ℕ)
printed_all [] = []
printed_all (t ∷ ts) = printed t ∷ printed_all ts

cases : printed_all texts ≡ seven ∷ seven ∷ refused_line ∷ refused_line ∷ refused_line ∷ (48 ∷ 32 ∷ 48 ∷ 32 ∷ 49 ∷ 10 ∷ []) ∷ refused_line ∷ []
unfolding picture past_comment past_blanks blank past_blank past_digits number size_from is_plain is_header digits line shortest uniform all pixel gathered
cases = refl
