-- `rasters::Filler::walk` meets its contract, by recursion over the level: a block that its first leaf covers has the leaf's colour; of any
-- other but a tile the quarters are filled one after another.
use Rattle.std.proofs.Common.{refl, arith, rules, ℕ, ◌+◌, ◌-◌, ◌^◌}
use Rattle.probe.specs.Asked.{cell_at}
use Rattle.rasters.specs.Laws.Blocks.{found_rows, four_rows, quarter_rows}
use Rattle.rasters.proofs.blocks.Filler.+walk.Goals as goal

pub returns-then-block-level_of : goal.returns-then-block-level_of
returns-then-block-level_of t c =
    let m = c.args.self.now.map in
    found_rows m.n m.list.now _ c.args.block c.requires m.is _ _ _ c.find-at.ensures c.colour_of.ensures (omega (arith, c.if-block-level_of.true, c.level_of.ensures)) c.square.ensures (search rules)

pub returns : goal.returns
returns t c =
    let m = c.args.self.now.map in
    let b = c.args.block in
    let h : ℕ = 2 ^ (b.level - 1) in
    let g = cell_at m.list.now in
    let q = c.quarters.ensures in
    four_rows m.n g b.row b.column b.level h (omega (arith, c.if-block-level_of.false)) refl c.requires.right
    (quarter_rows m.n g _ _ _ b.level 0 0 _ _ _ _ b.row b.column q.nw (omega arith) (omega arith) c.walk.ensures)
    (quarter_rows m.n g _ _ _ b.level 0 1 _ _ _ _ b.row (b.column + h) q.ne (omega arith) (omega arith) c.walk-2.ensures)
    (quarter_rows m.n g _ _ _ b.level 1 0 _ _ _ _ (b.row + h) b.column q.sw (omega arith) (omega arith) c.walk-3.ensures)
    (quarter_rows m.n g _ _ _ b.level 1 1 _ _ _ _ (b.row + h) (b.column + h) q.se (omega arith) (omega arith) c.walk-4.ensures)
