-- Worked cases of placing, in one table that antt computes.
use Rattle.std.specs.Prelude.{◌≡◌, ℕ, ◌+◌, ◌*◌, true, false, List, [], ◌∷◌, map, ℤ, pos, negsuc, refl, Float}
use Rattle.std.specs.Float.{nan, inf, fin, binary64}
use Rattle.std.specs.Float.Ieee.{round}
use Rattle.refusal.specs.Answer.{Answer, gives, refuses}
use Rattle.place.specs.Placing.{in1024ths, cell_side, reading, exact, offsets, between, on_ground, placed}
use Rattle.place.specs.declared.Ground.{Ground}
use Rattle.place.specs.declared.Place.{Place}
use Rattle.place.specs.declared.Place.TheVariants.{Cells, OnGround}
use Rattle.place.specs.declared.Shift.{Shift}

-- the f64 nearest to a / b, and to - a / b
abbrev near : ℕ → ℕ → Float
near a b = round binary64 false a b

abbrev below : ℕ → ℕ → Float
below a b = round binary64 true a b

abbrev whole : ℕ → Float
whole a = near a 1

abbrev at : Float → Float → Float → Ground
at north east cell = record { north = north; east = east; cell = cell }

abbrev shift : ℤ → ℤ → Answer Shift
shift dy dx = gives (record { dy = dy; dx = dx })

-- the first map at north 1000, east 500, cell 10; the second at the ground named
abbrev against : Ground → Place
against g = OnGround (at (whole 1000) (whole 500) (whole 10)) g

-- and the other way round
abbrev under : Ground → Place
under g = OnGround g (at (whole 970) (whole 520) (whole 10))

-- cells of side 1, the second map at the origin
abbrev unit : Float → Float → Place
unit north east = OnGround (at north east (whole 1)) (at (whole 0) (whole 0) (whole 1))

-- one 1024th beyond the limit
abbrev beyond : ℕ
beyond = 16777216 * 1024 + 1

abbrev asked : List Place
asked =
    against (at (whole 970) (whole 520) (whole 10))
    ∷ against (at (whole 975) (whole 520) (whole 10))
    ∷ against (at (whole 970) (whole 520) (whole 5))
    ∷ against (at (whole 1030) (whole 480) (whole 10))
    ∷ against (at (whole 970) (whole 525) (whole 10))
    ∷ against (at (whole 975) (whole 525) (whole 5))
    ∷ against (at (near 1 10) (whole 520) (whole 10))
    ∷ against (at nan (whole 520) (whole 10))
    ∷ against (at (whole 970) (inf true) (whole 10))
    ∷ against (at (whole 970) (whole 520) (inf false))
    ∷ against (at (whole 970) (whole 520) (whole 0))
    ∷ against (at (whole 970) (whole 520) (fin true 0 (pos 0)))
    ∷ against (at (whole 970) (whole 520) (below 10 1))
    ∷ under (at nan (whole 500) (whole 10))
    ∷ under (at (whole 1000) nan (whole 10))
    ∷ under (at (whole 1000) (whole 500) nan)
    ∷ under (at (whole 1000) (whole 500) (near 1 2048))
    ∷ OnGround (at nan nan nan) (at nan nan nan)
    ∷ unit (whole 65536) (fin true 0 (pos 0))
    ∷ unit (below 65536 1) (whole 65536)
    ∷ unit (whole 65537) (whole 0)
    ∷ unit (whole 0) (whole 65537)
    ∷ OnGround (at (whole 16777216) (below 16777216 1) (whole 1024)) (at (below 16777216 1) (whole 16777216) (whole 1024))
    ∷ unit (whole 16777216) (whole 0)
    ∷ unit (near beyond 1024) (whole 0)
    ∷ unit (whole 0) (below beyond 1024)
    ∷ OnGround (at (near 3 1024) (whole 0) (near 1 1024)) (at (whole 0) (whole 0) (near 1 1024))
    ∷ Cells (pos 3) (pos 2)
    ∷ Cells (pos 65536) (negsuc 65535)
    ∷ Cells (pos 65537) (pos 65537)
    ∷ Cells (negsuc 65536) (pos 0)
    ∷ Cells (pos 0) (negsuc 65536)
    ∷ Cells (pos 0) (pos 9223372036854775807)
    ∷ []

pub cases :
    map placed asked
    ≡ shift (pos 3) (pos 2)
    ∷ refuses 8 0
    ∷ refuses 7 0
    ∷ shift (negsuc 2) (negsuc 1)
    ∷ refuses 8 1
    ∷ refuses 7 0
    ∷ refuses 6 3
    ∷ refuses 6 3
    ∷ refuses 6 4
    ∷ refuses 6 5
    ∷ refuses 6 5
    ∷ refuses 6 5
    ∷ refuses 6 5
    ∷ refuses 6 0
    ∷ refuses 6 1
    ∷ refuses 6 2
    ∷ refuses 6 2
    ∷ refuses 6 0
    ∷ shift (pos 65536) (pos 0)
    ∷ shift (negsuc 65535) (negsuc 65535)
    ∷ refuses 2 0
    ∷ refuses 2 1
    ∷ shift (pos 32768) (pos 32768)
    ∷ refuses 2 0
    ∷ refuses 6 0
    ∷ refuses 6 1
    ∷ shift (pos 3) (pos 0)
    ∷ shift (pos 3) (pos 2)
    ∷ shift (pos 65536) (negsuc 65535)
    ∷ refuses 2 0
    ∷ refuses 2 0
    ∷ refuses 2 1
    ∷ refuses 2 1
    ∷ []
unfolding placed offsets on_ground between exact reading cell_side in1024ths round
cases = refl
