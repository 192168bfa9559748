-- `probe::Chart::look` meets its contract: the square stays within the leaf of its upper left cell; or that leaf is smaller than the
-- square, which is no single cell; or the corners tell.
use Rattle.probe.proofs.square.Chart.look.Goals.{After-find-at}
use Rattle.std.proofs.Common.{sym, arith}
use Rattle.std.proofs.Math.ListN.{get_or}
use Rattle.morton.specs.Code.{code}
use Rattle.tiling.specs.Leaf.{code_of}
use Rattle.tiling.specs.WellFormed.{Right}
use Rattle.probe.specs.Search.{Found}
use Rattle.probe.specs.Laws.Search.{found_right}
use Rattle.probe.specs.Laws.Leaf.{cell_spans, level_le, first_cell, leaf_covers, leaf_shows, stays_both, leaves_one}
use Rattle.probe.proofs.square.Chart.look.Goals as goal

-- the leaf that was found, and that it is a block of the square
found : (c : After-find-at) →
    Found c.args.self.now.map.list.now (code c.args.square.row c.args.square.column) c.find-at.result
found c = rw c.code_of.ensures at c.find-at.ensures

leaf : (c : After-find-at) →
    let m = c.args.self.now.map in
    let w = get_or m.list.now c.find-at.result 0 in
    Right m.n (code_of w) w
leaf c = found_right _ _ c.args.self.now.map.is.formed _ _ (found c)

pub find-at-requires : goal.find-at-requires
find-at-requires c = rw c.code_of.ensures (cell_spans _ _ _ _ c.args.self.now.map.is (first_cell _ _ _ _ c.requires))

pub side-side-requires : goal.side-side-requires
side-side-requires c = omega (arith, level_le _ _ _ _ c.requires, c.args.self.now.map.is.size)

pub returns-then-row-leaf_side : goal.returns-then-row-leaf_side
returns-then-row-leaf_side c =
    let a = c.args in
    let f = stays_both a.square.row a.square.column c.side-side.result c.side-leaf_side.result c.if-row-leaf_side.true in
    let b = c.side-leaf_side.ensures.is in
    let s = c.side-side.ensures.is in
    let m = c.level_of-leaf_level.ensures in
    rw c.colour_of-colour.ensures (leaf_shows _ _ _ _ c.args.self.now.map.is (first_cell _ _ _ _ c.requires) _ (found (goal.at.returns-then-row-leaf_side c).After-find-at) _ (rw (b, s, m) at f.0) (rw (b, s, m) at f.1))

pub across-requires : goal.across-requires
across-requires c =
    let p = c.requires in (
    record {
      within = p;
      first = leaf_covers _ _ _ _ c.args.self.now.map.is (first_cell _ _ _ _ p) _ (found (goal.at.across-requires c).After-find-at) _ _ (sym c.colour_of-colour.ensures) (omega (arith, c.level_of-leaf_level.ensures));
    }
    )

pub returns-then-across : goal.returns-then-across
returns-then-across c = c.across.ensures c.if-across.true

pub returns : goal.returns
returns c = leaves_one _ _ _ _ _ c.side-leaf_side.ensures.low c.side-side.ensures.is c.if-row-leaf_side.false
