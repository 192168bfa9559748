-- `rasters::Filler::put_tile` meets its contract: row by row.
use Rattle.rasters.proofs.blocks.Filler.put_tile.Goals.{In-loop-row}
use Rattle.std.proofs.Common.{refl, arith, ap, rules, ℕ, ◌+◌, ◌*◌, ◌≤◌, ◌-◌, ◌∙◌, ◌≡◌, List, take, drop, length}
use Rattle.std.proofs.lemmas.List.{places}
use Rattle.rasters.specs.Blocks.{tile_cell}
use Rattle.rasters.specs.Laws.Blocks.{rows_more, row_fits, row_codes_small, row_stored, tile_row}
use Rattle.rasters.proofs.blocks.Filler.put_tile.Goals as goal

-- the row fits
fits : (c : In-loop-row) → (c.args.block.row + c.loop-row.row) * c.side-width.result + c.args.block.column + 16 ≤ length c.loop-row.cells
fits c = let b = c.args.block in rw (c.side-width.ensures.is, c.loop-row.auto.cells) (row_fits _ _ b.row b.column 4 c.loop-row.row c.requires.1 c.loop-row-test.true)

pub slice_bounds-gather-end-in-loop-row : goal.slice_bounds-gather-end-in-loop-row
slice_bounds-gather-end-in-loop-row c = fits (goal.at.slice_bounds-gather-end-in-loop-row c).In-loop-row

-- and is sixteen cells
sixteen : (l : List ℕ) (place : ℕ) → place + 16 ≤ length l → length (take (place + 16 - place) (drop place l)) ≡ 16
sixteen l place h = search (rules, places, arith)

pub gather-requires : goal.gather-requires
gather-requires c =
    let f = c.args.self.now in
    let e = sixteen c.loop-row.cells _ (fits (goal.at.gather-requires c).In-loop-row) in
    (search (rules, places), λ j h. rw c.told-tile (row_codes_small f.order.now c.loop-row.row (search rules) f.rows (omega arith) j (rw e at h)))

pub loop-row-preserved : goal.loop-row-preserved
loop-row-preserved c =
    let b = c.args.block in
    let k = c.loop-row in
    let f = c.args.self.now in
    let w = fits (goal.at.loop-row-preserved c).In-loop-row in
    let e = sixteen k.cells _ w in
    rows_more f.map.n (tile_cell c.args.tile.now b.row b.column) b.row b.column 16 k.row c.requires.1.right
    (ap (λ (w : ℕ). (b.row + k.row) * w + b.column) c.side-width.ensures.is) refl (tile_row c.args.tile.now f.order.now b.row b.column k.row _ f.rows (omega arith)) k.invariant
    (row_stored c.args.tile.now f.order.now k.cells c.gather.new.cells k.row _ (search rules) (omega arith) w (c.gather.auto.cells ∙ e) (λ d h. c.gather.ensures d (rw e h)))
