-- The list whose lines are printed is the shortest of the picture.
use Rattle.std.specs.Prelude.{◌≡◌, List, ℕ, zero, suc, ◌*◌, ◌+◌, ◌^◌, ◌<◌, eqb, get_or}
use Rattle.std.proofs.Common.{sym, ap, ◌∙◌, ⊎_elim, arith, eqb-true}
use Rattle.tiling.specs.Leaf.{colours}
use Rattle.tiling.specs.Laws.Tests.{or_either}
use Rattle.shortest.specs.Shortest.{shortest}
use Rattle.shortest.specs.Demand.{IsShortest}
use Rattle.shortest.proofs.Demand.{shortest_is, shortest_only}
use Rattle.morton.specs.Code.{row_of, column_of}
use Rattle.rasters.specs.Raster.{pixel}
use Rattle.pbm.specs.Picture.{Cells, IsPicture, Picture}
use Rattle.printing.specs.Lines.{lines, printed, printed_of}
use Rattle.pbm.specs.Laws.Exactly.{is_read}

-- a cell is of colour 0 or 1
pub cell_colour : {t l : List ℕ} → Cells t l → (i : ℕ) → get_or l i 0 < colours
cell_colour Cells.none i = omega arith
cell_colour (Cells.space e r) i = cell_colour r i
cell_colour (Cells.cell {b = b} e r) zero =
    ⊎_elim (λ x. omega (arith, eqb-true b 48 x)) (λ x. omega (arith, eqb-true b 49 x)) (or_either (eqb b 48) (eqb b 49) e)
cell_colour (Cells.cell e r) (suc i) = cell_colour r i

pub picture-printed : (t : List ℕ) (p : Picture) → IsPicture t p → (l : List ℕ) → IsShortest (pixel p.of_size p.of_cells) p.of_size l → printed t ≡ lines p.of_size l
unfolding pixel
picture-printed t p i l s =
    let f = pixel p.of_size p.of_cells in
    let n = p.of_size in
    let k = shortest_is f n (omega (arith, i.size)) (λ j. cell_colour i.cells (row_of j * 2 ^ n + column_of j)) in
    let le = s.least (shortest f n 0) k.formed k.shows in
    let ge = k.least l s.formed s.shows in
    ap printed_of (is_read t p i) ∙ ap (lines n) (sym (shortest_only f n l s.formed s.shows (omega (arith, le, ge))))
