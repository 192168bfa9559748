-- `printing::leaves` meets its contract: the cells that were read are the raster whose list is written, and its lines are those of that list.
use Rattle.printing.proofs.leaves.Goals.{In-Ok, After-area-whole, After-write-count}
use Rattle.std.proofs.Math.Path.{◌≡◌, ◌∙◌}
use Rattle.std.proofs.Common.{sym, ap, arith, length-take-le, rules, ◌≤◌, ◌^◌, take, length, drop, ◌++◌}
use Rattle.rasters.specs.Raster.{pixel}
use Rattle.printing.specs.Lines.{printed_of, lines}
use Rattle.refusal.specs.Answer.{gives}
use Rattle.pbm.specs.Laws.Header.{few_cells}
use Rattle.pbm.specs.Laws.Exactly.{is_picture}
use Rattle.printing.specs.Laws.Printed.{cell_colour}
use Rattle.pbm.specs.Laws.Picture.{picture-whole, given_picture, front}
use Rattle.pbm.specs.Reading.{picture}
use Rattle.pbm.specs.Picture.{Picture}
use Rattle.shortest.specs.Shortest.{shortest}
use Rattle.shortest.specs.Laws.Part.{shortest-size}
use Rattle.printing.proofs.leaves.Goals as goal

-- the picture that was read
shown : (c : In-Ok) → (p : Picture) × (picture c.args.text.now ≡ gives p) × (c.in-Ok.n ≡ p.of_size)
shown c = given_picture _ _ c.in-Ok.ensures.answered

pub area-whole-requires : goal.area-whole-requires
area-whole-requires c = let s = shown c in omega (arith, s.2, (picture-whole _ s.0 s.1).sized)

-- its cells stand at the front of the array
taken : (c : After-area-whole) → (c.area-whole.result ≤ length c.read.new.cells) × (take c.area-whole.result c.read.new.cells ≡ (shown (goal.at.After-area-whole c).In-Ok).0.of_cells)
taken c =
    let s = shown (goal.at.After-area-whole c).In-Ok in
    front s.0.of_cells _ _ _ (c.area-whole.ensures.is ∙ ap (λ n. 4 ^ n) s.2 ∙ sym (picture-whole _ s.0 s.1).all) (rw s.1 at c.read.ensures.left)

pub slice_bounds-cells-end : goal.slice_bounds-cells-end
slice_bounds-cells-end c = (taken (goal.at.slice_bounds-cells-end c).After-area-whole).0

pub slice_bounds-raster-end : goal.slice_bounds-raster-end
slice_bounds-raster-end c = sym (length-take-le _ _ (taken (goal.at.slice_bounds-raster-end c).After-area-whole).0)

pub invariant_of-raster-clause-rastered : goal.invariant_of-raster-clause-rastered
invariant_of-raster-clause-rastered c =
    let h = (goal.at.invariant_of-raster-clause-rastered c).After-area-whole in
    let s = shown (goal.at.invariant_of-raster-clause-rastered c).In-Ok in
    record { size = omega (arith, s.2, (picture-whole _ s.0 s.1).sized); whole = length-take-le _ _ (taken h).0 ∙ c.area-whole.ensures.is }

pub invariant_of-raster-clause-bytes : goal.invariant_of-raster-clause-bytes
invariant_of-raster-clause-bytes c =
    let s = shown (goal.at.invariant_of-raster-clause-bytes c).In-Ok in
    λ j. rw (taken (goal.at.invariant_of-raster-clause-bytes c).After-area-whole).1 (cell_colour (is_picture _ s.0 s.1).cells j)

pub write-count-requires : goal.write-count-requires
write-count-requires c =
    let s = shown (goal.at.write-count-requires c).In-Ok in
    let n = c.in-Ok.n in
    let w = c.whole.ensures in
    let cells = take c.area-whole.result c.read.new.cells in
    let fits : length (shortest (pixel n cells) n 0) ≤ 1024 = omega (arith, shortest-size (pixel n cells) n 0, few_cells n (omega (arith, s.2, (picture-whole _ s.0 s.1).sized))) in
    (search rules, w.0, rw w.3 fits)

-- and its list at the front of the other
listed : (c : After-write-count) → let n = c.in-Ok.n in
    (c.write-count.result ≤ length c.write-count.new.out) × (take c.write-count.result c.write-count.new.out ≡ shortest (pixel n (shown (goal.at.After-write-count c).In-Ok).0.of_cells) n 0)
listed c =
    let n = c.in-Ok.n in
    let e = c.whole.ensures.3 in
    let w = front _ _ _ _ (rw e at c.write-count.ensures.counted) (rw e at c.write-count.ensures.left) in
    (w.0, w.1 ∙ ap (λ x. shortest (pixel n x) n 0) (taken (goal.at.After-write-count c).After-area-whole).1)

pub put_lines-requires : goal.put_lines-requires
put_lines-requires c =
    let s = shown (goal.at.put_lines-requires c).In-Ok in
    let w = picture-whole _ s.0 s.1 in
    let n = c.in-Ok.n in
    (omega (arith, s.2, w.sized), omega (arith, ap length (listed (goal.at.put_lines-requires c).After-write-count).1, shortest-size (pixel n s.0.of_cells) n 0, few_cells n (omega (arith, s.2, w.sized)), c.well_formed))

pub returns : goal.returns
returns c =
    let a = c.args in
    let s = shown (goal.at.returns c).In-Ok in
    let n = c.in-Ok.n in
    let e = ap (lines n) (listed (goal.at.returns c).After-write-count).1 ∙ ap (λ m. lines m (shortest (pixel m s.0.of_cells) m 0)) s.2 ∙ sym (ap printed_of s.1) in
    record {
      counted = c.put_lines.ensures.counted ∙ ap length e;
      left = c.put_lines.ensures.left ∙ ap (λ l. l ++ drop (length l) a.out.now) e;
    }
