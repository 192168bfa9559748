-- `rasters::square` meets its contract: row by row.
use Rattle.std.proofs.Common.{refl, arith, ap, ℕ, ◌+◌, ◌*◌, ◌^◌}
use Rattle.rasters.specs.Blocks.{alone}
use Rattle.rasters.specs.Laws.Blocks.{walk_level, rows_more, row_fits}
use Rattle.rasters.proofs.blocks.square.Goals as goal

pub side-side-requires : goal.side-side-requires
side-side-requires c = omega (arith, walk_level _ _ c.args.block c.requires, c.requires.size)

pub store-requires : goal.store-requires
store-requires c =
    let b = c.args.block in
    let r = c.loop-row.row in
    let w = c.side-width.ensures.is in
    let s = c.side-side.ensures.is in
    (omega arith, rw (w, s, c.loop-row.auto.cells) (row_fits _ _ _ _ b.level r c.requires (rw s at c.loop-row-test.true)))

pub loop-row-preserved : goal.loop-row-preserved
loop-row-preserved c =
    let b = c.args.block in
    let k = c.loop-row in
    let place : ℕ = (b.row + k.row) * c.side-width.result + b.column in
    rows_more c.args.n (alone c.args.colour) b.row b.column (2 ^ b.level) k.row c.requires.right
    (ap (λ (w : ℕ). (b.row + k.row) * w + b.column) c.side-width.ensures.is) (ap (λ (s : ℕ). place + s) c.side-side.ensures.is) (λ d l. refl) k.invariant c.store.ensures
