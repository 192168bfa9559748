-- What is answered of a picture that is read: its size, and its cells in the memory lent.
use Rattle.std.specs.Prelude.{ℕ}
use Rattle.refusal.specs.Answer.{Answer, gives, refuses}
use Rattle.shortest.specs.Outcome.{Outcome}
use Rattle.pbm.specs.Picture.{Picture}

-- the answer gives the size; the cells are written into the memory lent
abbrev pub size_given : Answer Picture → Answer ℕ
size_given (gives p) = gives p.of_size
size_given (refuses rule number) = refuses rule number

abbrev pub cells_given : Answer Picture → Outcome
cells_given (gives p) = gives p.of_cells
cells_given (refuses rule number) = refuses rule number
