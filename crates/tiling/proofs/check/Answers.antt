-- `tiling::check` meets its contract. The loop keeps: the check of the list is that of what is left of it, after i entries that are
-- right and end at `end`.
use Rattle.std.proofs.Common.{◌≡◌, Some, None, length, arith, rules}
use Rattle.std.proofs.Math.Path.{◌∙◌}
use Rattle.std.proofs.Math.ListN.{get_or}
use Rattle.tiling.specs.Check.{right_end}
use Rattle.tiling.specs.Laws.Check.{entry_right, ends_right, ends_wrong}
use Rattle.tiling.proofs.Walk.{whole, short, wrong, right}
use Rattle.tiling.proofs.check.Goals as goal

pub returns-in_err-end : goal.returns-in_err-end
returns-in_err-end c =
    let k = c.loop-i in
    let l = c.args.list.now in
    let none : None ≡ right_end c.args.n k.end (get_or l k.i 0) = search rules in
    let e = wrong _ _ _ _ k.invariant c.loop-i-test.true (ends_wrong _ k.end (get_or l k.i 0) none) in
    search rules

pub loop-i-preserved : goal.loop-i-preserved
loop-i-preserved c =
    let k = c.loop-i in
    let l = c.args.list.now in
    let some : Some c.in_ok-end.end ≡ right_end c.args.n k.end (get_or l k.i 0) = search rules in
    let e = ends_right _ _ _ _ some in
    rw e.1 (right _ _ _ _ k.invariant c.loop-i-test.true (entry_right _ _ _ e.0))

pub returns-then-end-whole : goal.returns-then-end-whole
returns-then-end-whole c = whole _ _ _ _ c.loop-i.invariant (omega arith) (c.if-end-whole.true ∙ c.area-whole.ensures.is)

pub returns-else-end-whole : goal.returns-else-end-whole
returns-else-end-whole c =
    let k = c.loop-i in
    let at_end : k.i ≡ length c.args.list.now = omega arith in
    rw at_end at (short _ _ _ _ k.invariant (omega (arith, at_end)) (rw c.area-whole.ensures.is at c.if-end-whole.false))
