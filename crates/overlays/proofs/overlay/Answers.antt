-- `overlays::overlay` meets its contract: what is judged bad is refused; what is right is painted, and the view shows the overlay.
use Rattle.overlays.proofs.overlay.Goals.{In_ok-first}
use Rattle.std.proofs.Common.{length, rules, arith, ◌∙◌, ◌≡◌}
use Rattle.shortest.specs.Laws.Outcome.{told}
use Rattle.refusal.specs.Read.{answered, rule_of, number_of}
use Rattle.refusal.specs.Answer.{refuses}
use Rattle.overlays.specs.Laws.Checks.{Right}
use Rattle.overlays.specs.Laws.Scenes.{judged_bad, right, drawn, overlaid_by}
use Rattle.overlays.proofs.overlay.Goals as goal

pub returns-in_err-first : goal.returns-in_err-first
returns-in_err-first c =
    let a = c.args in
    let w = c.framed-window.result in
    let t = told
    (overlaid_by a.operation a.n a.first.now a.m a.second.now a.shift a.frame (length a.out.now) w c.framed-window.ensures
    ∙ judged_bad a.operation a.n a.first.now a.m a.second.now a.shift w c.judge.result c.judge.ensures.judged _ c.in_err-first.was _)
    a.out.now in
    let r = c.in_err-first.field-0.0 in
    let e : answered c.from_residual.result ≡ refuses (rule_of r) (number_of r) = search rules in
    record { answered = e ∙ t.0; left = t.1 }

all_right : (c : In_ok-first) → let a = c.args in Right a.n a.first.now a.m a.second.now a.shift c.framed-window.result
all_right c =
    let a = c.args in
    right a.operation a.n a.first.now a.m a.second.now a.shift c.framed-window.result c.judge.result c.judge.ensures.judged _ c.in_ok-first.was

pub view-view-requires : goal.view-view-requires
view-view-requires c = (all_right (goal.at.view-view-requires c).In_ok-first).near

pub whole-whole-requires : goal.whole-whole-requires
whole-whole-requires c = omega (arith, (all_right (goal.at.whole-whole-requires c).In_ok-first).window_size)

pub returns : goal.returns
returns c =
    let a = c.args in
    let w = c.framed-window.result in
    let t = told
    (overlaid_by a.operation a.n a.first.now a.m a.second.now a.shift a.frame (length a.out.now) w c.framed-window.ensures
    ∙ drawn a.operation a.n a.first.now a.m a.second.now a.shift w c.judge.result c.judge.ensures.judged _ c.in_ok-first.was (length a.out.now))
    a.out.now in
    let m = c.in_ok-first.ensures.maps in
    let p = rw (c.view-view.ensures, c.whole-whole.ensures.block.3, m.0.0, m.0.1, m.1.0, m.1.1) at c.list.ensures in
    record {
      answered = p.answered ∙ t.0;
      left = p.left ∙ t.1;
    }
