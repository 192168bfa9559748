-- `painter::View::shown` meets its contract: settled early by what was known of the second map, or by what both maps tell.
use Rattle.probe.specs.Laws.About.{tells_holds}
use Rattle.painter.specs.Known.{told}
use Rattle.painter.specs.View.{scene_of, first_of, second_of}
use Rattle.painter.specs.Laws.Settling.{early_told, both_told}
use Rattle.painter.proofs.scene.View.shown.Goals as goal

pub returns-in-Some : goal.returns-in-Some
returns-in-Some c =
    let g = c.ask-first in
    let k = tells_holds _ _ _ _ g.result g.ensures in
    let v = c.args.self.now in
    let e = c.in-Some.is in
    record {
      knows = record { first = k; second = c.requires.1.second };
      shows = early_told (scene_of v) (first_of v) (second_of v) _ _ _ g.result c.args.known.second c.in-Some.colour k c.requires.1.second (rw e at c.joint.ensures);
    }

pub returns : goal.returns
returns c =
    let g = c.ask-first in
    let h = c.ask-second in
    let j = c.joint-all in
    let v = c.args.self.now in
    record {
      knows = record { first = tells_holds _ _ _ _ g.result g.ensures; second = tells_holds _ _ _ _ h.result h.ensures };
      shows = both_told (scene_of v) (first_of v) (second_of v) _ _ _ g.result h.result (told j.result) g.ensures h.ensures j.ensures;
    }
