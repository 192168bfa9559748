-- `look` of `painter::View` meets its contract: a block that shows one colour comes to it.
use Rattle.painter.specs.View.{scene_of, first_of, second_of}
use Rattle.painter.specs.Laws.Blocks.{shows_part}
use Rattle.painter.proofs.painting.ViewPicture.look.Goals as goal

pub returns-in-Some : goal.returns-in-Some
returns-in-Some c =
    let v = c.args.self.now in
    shows_part (scene_of v) (first_of v) (second_of v) _ _ _ _ _ c.args.glance.block.is (rw c.in-Some.is at c.shown_over-seen.ensures.shows)
