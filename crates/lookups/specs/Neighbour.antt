-- The neighbour of a block.
use Rattle.std.specs.Prelude.{Bool, not, ◌&&◌, ℕ, ◌%◌, ◌^◌, leb, ltb, eqb, ℤ, pos, negsuc, ◌+ℤ◌, ◌*ℤ◌, nat_abs}
use Rattle.refusal.specs.Rules as rule
use Rattle.refusal.specs.Answer.{Answer, gives, refuse_if}
use Rattle.morton.specs.Code.{code, row_of, column_of}
use Rattle.tiling.specs.Map.{limit, inside}
use Rattle.lookups.specs.declared.neighbours.Direction.{Direction}
use Rattle.lookups.specs.declared.neighbours.Direction.TheVariants.{North, NorthEast, East, SouthEast, South, SouthWest, West, NorthWest}

-- a block's code is a multiple of 4 ^ level in the square
abbrev pub is_block : ℕ → ℕ → ℕ → Bool
is_block n k level = leb level n && ltb k (4 ^ n) && eqb (k % 4 ^ level) 0

-- how many sides to the south, and to the east, a direction leads
abbrev pub southward : Direction → ℤ
southward North = negsuc 0
southward NorthEast = negsuc 0
southward East = pos 0
southward SouthEast = pos 1
southward South = pos 1
southward SouthWest = pos 1
southward West = pos 0
southward NorthWest = negsuc 0

abbrev pub eastward : Direction → ℤ
eastward North = pos 0
eastward NorthEast = pos 1
eastward East = pos 1
eastward SouthEast = pos 1
eastward South = pos 0
eastward SouthWest = negsuc 0
eastward West = negsuc 0
eastward NorthWest = negsuc 0

-- the row and the column one side away from the upper left cell of the block of the level at k
abbrev pub row_away : ℕ → ℕ → Direction → ℤ
row_away k level d = pos (row_of k) +ℤ southward d *ℤ pos (2 ^ level)

abbrev pub column_away : ℕ → ℕ → Direction → ℤ
column_away k level d = pos (column_of k) +ℤ eastward d *ℤ pos (2 ^ level)

-- neighbour: 1, 12, 9; the code of the block of the same level one side away
unfoldable pub neighbour : ℕ → ℕ → ℕ → Direction → Answer ℕ
neighbour n k level d =
    refuse_if (ltb limit n) rule.size 0
    (refuse_if (not (is_block n k level)) rule.block_address 0
    (refuse_if (not (inside n (row_away k level d) (column_away k level d))) rule.outside 0
    (gives (code (nat_abs (row_away k level d)) (nat_abs (column_away k level d))))))
