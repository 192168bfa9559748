-- What is promised of the lines, stated without the way they are found.
use Rattle.std.specs.Prelude.{◌≡◌, List, ℕ}
use Rattle.std.proofs.Common.{ap}
use Rattle.shortest.specs.Demand.{IsShortest}
use Rattle.rasters.specs.Raster.{pixel}
use Rattle.pbm.specs.Picture.{IsPicture, Reads, Picture}
use Rattle.pbm.specs.Laws.Exactly.{from_reads}
use Rattle.printing.specs.Lines.{lines, refused_line, printed, printed_of}
use Rattle.printing.specs.Laws.Printed.{picture-printed}

-- of a picture the lines of its shortest list are printed, and of any other text the refusal
pub printed-picture : (t : List ℕ) (p : Picture) → IsPicture t p → (l : List ℕ) → IsShortest (pixel p.of_size p.of_cells) p.of_size l → printed t ≡ lines p.of_size l
printed-picture = picture-printed

pub printed_refused : (t : List ℕ) → ((p : Picture) → IsPicture t p → ⊥) → printed t ≡ refused_line
printed_refused t f = ap printed_of (from_reads t _ (Reads.unread f))
