-- One number for each answer: rule × 2 ^ 32 + number for a refusal, and the value alone for what is given.
use Rattle.std.specs.Prelude.{List, ◌∷◌, ℕ, zero, suc, ◌+◌, ◌*◌, ◌-◌, ◌^◌, ℤ, drop, Option, Some, None}
use Rattle.refusal.specs.Answer.{Answer, gives, refuses}
use Rattle.place.specs.declared.Shift.{Shift}
use Rattle.painter.specs.declared.operations.Operation.{Operation}
use Rattle.painter.specs.declared.operations.Operation.TheVariants.{Intersection, Union, Difference}
use Rattle.lookups.specs.declared.neighbours.Direction.{Direction}
use Rattle.lookups.specs.declared.neighbours.Direction.TheVariants as direction

abbrev pub coded : Answer ℕ → ℕ
coded (gives v) = v
coded (refuses rule number) = rule * 2 ^ 32 + number

-- the answer to a number that names nothing, and to a place for a pair that is shorter than two
abbrev pub unnamed : ℕ
unnamed = 2 ^ 64 - 1

-- the operations are numbered 0, 1, 2
abbrev pub operation_of : ℕ → Option Operation
operation_of zero = Some Intersection
operation_of (suc zero) = Some Union
operation_of (suc (suc zero)) = Some Difference
operation_of (suc (suc (suc k))) = None

-- the directions are numbered 0 to 7, clockwise from north
abbrev pub direction_of : ℕ → Option Direction
direction_of zero = Some direction.North
direction_of (suc zero) = Some direction.NorthEast
direction_of (suc (suc zero)) = Some direction.East
direction_of (suc (suc (suc zero))) = Some direction.SouthEast
direction_of (suc (suc (suc (suc zero)))) = Some direction.South
direction_of (suc (suc (suc (suc (suc zero))))) = Some direction.SouthWest
direction_of (suc (suc (suc (suc (suc (suc zero)))))) = Some direction.West
direction_of (suc (suc (suc (suc (suc (suc (suc zero))))))) = Some direction.NorthWest
direction_of (suc (suc (suc (suc (suc (suc (suc (suc k)))))))) = None

-- of a shift: 0, and the pair dy, dx is written
abbrev pub pair_coded : Answer Shift → ℕ
pair_coded (gives s) = 0
pair_coded (refuses rule number) = rule * 2 ^ 32 + number

abbrev pub pair_left : Answer Shift → List ℤ → List ℤ
pair_left (gives s) old = s.dy ∷ s.dx ∷ drop 2 old
pair_left (refuses rule number) old = old
