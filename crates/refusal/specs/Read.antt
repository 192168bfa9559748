-- How a refusal of the code is read: its No. and its number.
use Rattle.std.specs.Prelude.{ℕ, Result, Ok, Err}
use Rattle.refusal.specs.Answer.{Answer, gives, refuses}
use Rattle.refusal.specs.Rules as rule
use Rattle.refusal.specs.declared.Refusal.{Refusal}
use Rattle.refusal.specs.declared.Refusal.TheVariants.{Size, Offset, FirstList, SecondList, NoRoom, GroundNumber, CellSides, PartOfACell, Outside, RasterLength, PictureText, BlockAddress}

abbrev pub rule_of : Refusal → ℕ
rule_of (Size k) = rule.size
rule_of (Offset k) = rule.offset
rule_of (FirstList k) = rule.first_list
rule_of (SecondList k) = rule.second_list
rule_of (NoRoom k) = rule.no_room
rule_of (GroundNumber k) = rule.ground_number
rule_of CellSides = rule.cell_sides
rule_of (PartOfACell k) = rule.part_of_a_cell
rule_of Outside = rule.outside
rule_of RasterLength = rule.raster_length
rule_of PictureText = rule.picture_text
rule_of BlockAddress = rule.block_address

abbrev pub number_of : Refusal → ℕ
number_of (Size k) = k
number_of (Offset k) = k
number_of (FirstList k) = k
number_of (SecondList k) = k
number_of (NoRoom k) = k
number_of (GroundNumber k) = k
number_of (PartOfACell k) = k
number_of _ = 0

-- what a call answers: what it gives, or its refusal
abbrev pub answered : {A : Type 0} → Result A Refusal → Answer A
answered (Ok x) = gives x
answered (Err r) = refuses (rule_of r) (number_of r)
