-- Placing: which ground numbers are usable, and where the second map lies. A ground number is read in 1024ths, as an integer.
use Rattle.std.specs.Prelude.{ℕ, ◌+◌, ◌*◌, ◌/◌, ◌%◌, Bool, true, false, cond, ◌&&◌, ℤ, pos, negsuc, ◌-ℤ◌, neg_ℤ, ◌==◌, int_div, int_lt, nat_le, nat_lt, unsigned_abs, Float, Option, Some, None, Result, Ok, Err}
use Rattle.std.specs.Float.{nan, inf, fin}
use Rattle.std.specs.Float.Ieee.{up, down}
use Rattle.refusal.specs.Rules as rule
use Rattle.refusal.specs.Answer.{Answer, gives, refuses, refuse_if}
use Rattle.place.specs.declared.Ground.{Ground}
use Rattle.place.specs.declared.Place.{Place}
use Rattle.place.specs.declared.Place.TheVariants.{Cells, OnGround}
use Rattle.place.specs.declared.Shift.{Shift}
use Rattle.place.specs.declared.Reading.{Reading}

-- ---- a ground number

-- the limit of a ground number, and the same in 1024ths
abbrev pub farthest : ℕ
farthest = 16777216

abbrev pub reach : ℕ
reach = 17179869184

-- n with a sign: minus zero is zero
abbrev pub signed : Bool → ℕ → ℤ
signed true n = neg_ℤ (pos n)
signed false n = pos n

-- The number m * 2 ^ e, which is m * up e / down e, is a whole number of 1024ths and within the limit.
abbrev pub usable : ℕ → ℤ → Bool
usable m e = m * up e * 1024 % down e == 0 && nat_le (m * up e) (farthest * down e)

-- a usable ground number in 1024ths
unfoldable pub in1024ths : Float → Option ℤ
in1024ths nan = None
in1024ths (inf s) = None
in1024ths (fin s m e) = cond (usable m e) (Some (signed s (m * up e * 1024 / down e))) None

-- a cell side is above zero as well
abbrev pub above_zero : Option ℤ → Option ℤ
above_zero None = None
above_zero (Some z) = cond (int_lt (pos 0) z) (Some z) None

unfoldable pub cell_side : Float → Option ℤ
unfolding in1024ths
cell_side x = above_zero (in1024ths x)

-- a number that has to be there, or else r
abbrev pub need : {X : Type 0} → Option ℤ → X → (ℤ → X) → X
need None r k = r
need (Some z) r k = k z

-- a ground reference in 1024ths, or the first of its numbers that is not usable
unfoldable pub reading : Ground → Result Reading ℕ
unfolding in1024ths cell_side
reading g =
    need (in1024ths g.north) (Err 0) λ north.
    need (in1024ths g.east) (Err 1) λ east.
    need (cell_side g.cell) (Err 2) λ cell.
    Ok (record { north = north; east = east; cell = cell })

-- ---- the shift

-- z / c, where that is a whole number
unfoldable pub exact : ℤ → ℤ → Option ℤ
exact z c = cond (unsigned_abs z % unsigned_abs c == 0) (Some (int_div z c)) None

abbrev pub same : ℤ → ℤ → Bool
same (pos a) (pos b) = a == b
same (pos a) (negsuc b) = false
same (negsuc a) (pos b) = false
same (negsuc a) (negsuc b) = a == b

-- outside -65,536 .. 65,536
abbrev pub farthest_offset : ℕ
farthest_offset = 65536

abbrev pub far : ℤ → Bool
far z = nat_lt farthest_offset (unsigned_abs z)

-- 2: an offset is too far
unfoldable pub offsets : ℤ → ℤ → Answer Shift
offsets dy dx =
    refuse_if (far dy) rule.offset 0
    (refuse_if (far dx) rule.offset 1
    (gives (record { dy = dy; dx = dx })))

-- 7, 8, 2: of the two maps' readings
unfoldable pub between : Reading → Reading → Answer Shift
unfolding exact offsets
between a b =
    cond (same a.cell b.cell)
    (need (exact (a.north -ℤ b.north) a.cell) (refuses rule.part_of_a_cell 0) λ dy.
    need (exact (b.east -ℤ a.east) a.cell) (refuses rule.part_of_a_cell 1) λ dx.
    offsets dy dx)
    (refuses rule.cell_sides 0)

-- what is answered of a reading: of its first number that is not usable, or of its three
abbrev pub of_reading : {X : Type 0} → Result Reading ℕ → (ℕ → X) → (Reading → X) → X
of_reading (Err k) r f = r k
of_reading (Ok a) r f = f a

-- 6, 7, 8, 2: the first reference's numbers are 0 to 2, the second's 3 to 5
unfoldable pub on_ground : Ground → Ground → Answer Shift
unfolding reading between
on_ground first second =
    of_reading (reading first) (λ k. refuses rule.ground_number k) λ a.
    of_reading (reading second) (λ k. refuses rule.ground_number (k + 3)) λ b.
    between a b

unfoldable pub placed : Place → Answer Shift
unfolding offsets on_ground
placed (Cells dy dx) = offsets dy dx
placed (OnGround first second) = on_ground first second
