-- `tiles::decode` meets its contract. The loop keeps: the cells before `place` have their colours, and the next lies in the leaf at `at`.
-- A turn adds what the leaf has of the 256 codes, and where it ends the next leaf begins.
use Rattle.tiles.proofs.decoding.decode.Goals.{In-loop-place, After-last_of-next}
use Rattle.std.proofs.Math.Path.{◌∙◌}
use Rattle.std.proofs.Common.{sym, arith, ℕ, ◌+◌, ◌-◌, ◌<◌}
use Rattle.std.proofs.Math.ListN.{get_or}
use Rattle.probe.specs.Search.{Found}
use Rattle.tiles.specs.Laws.Codes.{run_colours, run_some, run_next, last_within}
use Rattle.tiles.specs.Laws.Store.{stored_run}
use Rattle.tiles.proofs.decoding.decode.Goals as goal

-- in the loop the code at the place lies in the leaf
found : (c : In-loop-place) → let a = c.args in Found a.map.now.list.now (a.code + (c.loop-place.place - a.from)) c.loop-place.at
found c = c.loop-place.invariant.4 c.loop-place-test.true

-- the leaf, which has a cell at the place at least
abbrev w : After-last_of-next → ℕ
w c = get_or c.args.map.now.list.now c.loop-place.at 0

some : (c : After-last_of-next) → c.loop-place.place < c.last_of-next.result
some c =
    let p = c.requires in
    let a = c.args in
    let k = c.loop-place in
    omega (arith, c.last_of-next.ensures, run_some a.map.now.n a.map.now.list.now a.map.now.is.formed a.code a.from k.place k.at k.invariant.0 (omega arith) (found (goal.at.After-last_of-next c).In-loop-place))

pub loop-place-preserved : goal.loop-place-preserved
loop-place-preserved c =
    let k = c.loop-place in
    let p = c.requires in
    let a = c.args in
    let l = a.map.now.list.now in
    let f = found (goal.at.loop-place-preserved c).In-loop-place in
    let e = c.last_of-next.ensures in (
      omega (arith, some (goal.at.loop-place-preserved c).After-last_of-next, k.invariant.0),
      omega (arith, e, last_within (w (goal.at.loop-place-preserved c).After-last_of-next) a.code a.from),
      c.store.auto.cells ∙ k.invariant.2,
      stored_run k.invariant.0 (omega (arith, some (goal.at.loop-place-preserved c).After-last_of-next)) (λ i u v. run_colours a.map.now.n l a.map.now.is.formed a.code a.from k.place k.at k.invariant.0 f i u (omega (arith, e)) ∙ sym c.colour_of.ensures) k.invariant.3 c.store.ensures,
      λ h. rw e (run_next a.map.now.n l a.map.now.is.formed a.code a.from k.place k.at p.inside f (omega (arith, e))),
    )
