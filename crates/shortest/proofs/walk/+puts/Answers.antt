-- `shortest::put` meets its contract: each quarter is written after those before it, and `finish` makes the block of them.
use Rattle.shortest.proofs.walk.+puts.Given.{Over}
use Rattle.shortest.proofs.walk.+puts.Goals.{put_step-After-size, put_step-After-size-2, put_step-After-size-3, put_step-After-put-se}
use Rattle.std.proofs.Math.Path.{◌∙◌}
use Rattle.std.proofs.Common.{rules, refl, arith, ℕ, ◌+◌, ◌-◌}
use Rattle.shortest.specs.Part.{size_of}
use Rattle.shortest.specs.Coded.{number_of}
use Rattle.shortest.specs.Laws.Quarters.{Ready}
use Rattle.shortest.specs.Laws.Written.{colour_inner}
use Rattle.shortest.proofs.Steps.{Done, place_nw, place_ne, place_sw, place_se, fits_ne, fits_sw, fits_se, all_done, all_part, all_wrote}
use Rattle.shortest.proofs.walk.+puts.Goals as goal

pub put-returns-in-One-clause-left : goal.put-returns-in-One-clause-left
put-returns-in-One-clause-left g t c =
    let a = c.args in
    let m = g.P.Picture in
    colour_inner (m.colour_at a.picture.now) (g.met.P.Picture.coloured a.picture.now a.block c.requires.0) (c.in-One.colour) (m.level_of a.block) (m.code_of a.block) (omega arith) (search rules) a.out.now a.at

-- what the walk leaves of each quarter
module _ (g : Over) (t : ℕ) where
  done₀ : (c : put_step-After-size g t) →
      let m = g.P.Picture in
      let b = c.args.block in
      let q = c.quarters-quarter.result.nw in
      Done (m.colour_at c.args.picture.now) (m.code_of b) (m.level_of b) 0 (m.code_of q) (m.level_of q) c.args.out.now c.put-nw.new.out c.args.at (number_of c.put-nw.result) c.size.result
  done₀ c = let p = c.put-nw in record { quarter = c.quarters-quarter.ensures.nw.1; is = p.ensures.part; wrote = p.ensures.left; kept = p.auto.out; size = c.size.ensures }

  done₁ : (c : put_step-After-size-2 g t) →
      let m = g.P.Picture in
      let b = c.args.block in
      let q = c.quarters-quarter.result.ne in
      Done (m.colour_at c.args.picture.now) (m.code_of b) (m.level_of b) 1 (m.code_of q) (m.level_of q) c.put-nw.new.out c.put-ne.new.out (c.args.at + c.size.result) (number_of c.put-ne.result) c.size-2.result
  done₁ c = let p = c.put-ne in record { quarter = c.quarters-quarter.ensures.ne.1; is = p.ensures.part; wrote = p.ensures.left; kept = p.auto.out; size = c.size-2.ensures }

  done₂ : (c : put_step-After-size-3 g t) →
      let m = g.P.Picture in
      let b = c.args.block in
      let q = c.quarters-quarter.result.sw in
      Done (m.colour_at c.args.picture.now) (m.code_of b) (m.level_of b) 2 (m.code_of q) (m.level_of q) c.put-ne.new.out c.put-sw.new.out (c.args.at + c.size.result + c.size-2.result) (number_of c.put-sw.result) c.size-3.result
  done₂ c = let p = c.put-sw in record { quarter = c.quarters-quarter.ensures.sw.1; is = p.ensures.part; wrote = p.ensures.left; kept = p.auto.out; size = c.size-3.ensures }

  done₃ : (c : put_step-After-put-se g t) →
      let m = g.P.Picture in
      let b = c.args.block in
      let q = c.quarters-quarter.result.se in
      Done (m.colour_at c.args.picture.now) (m.code_of b) (m.level_of b) 3 (m.code_of q) (m.level_of q) c.put-sw.new.out c.put-se.new.out (c.args.at + c.size.result + c.size-2.result + c.size-3.result) (number_of c.put-se.result) (size_of (number_of c.put-se.result))
  done₃ c = let p = c.put-se in record { quarter = c.quarters-quarter.ensures.se.1; is = p.ensures.part; wrote = p.ensures.left; kept = p.auto.out; size = refl }

pub put_step-put-nw-requires : goal.put_step-put-nw-requires
put_step-put-nw-requires g t c κs within = search (rules, place_nw c.requires.1 c.requires.2 c.quarters-quarter.ensures.nw.1)

pub put_step-overflow_add-at1 : goal.put_step-overflow_add-at1
put_step-overflow_add-at1 g t c = omega (arith, fits_ne c.requires.1 c.requires.2 (done₀ g t (goal.at.put_step-overflow_add-at1 g t c).After-size))

pub put_step-put-ne-requires : goal.put_step-put-ne-requires
put_step-put-ne-requires g t c κs within = search (rules, place_ne c.requires.1 c.requires.2 (done₀ g t (goal.at.put_step-put-ne-requires g t c).After-size) c.quarters-quarter.ensures.ne.1)

pub put_step-overflow_add-at2 : goal.put_step-overflow_add-at2
put_step-overflow_add-at2 g t c = omega (arith, fits_sw c.requires.1 c.requires.2 (done₀ g t (goal.at.put_step-overflow_add-at2 g t c).After-size) (done₁ g t (goal.at.put_step-overflow_add-at2 g t c).After-size-2))

pub put_step-put-sw-requires : goal.put_step-put-sw-requires
put_step-put-sw-requires g t c κs within = search (rules, place_sw c.requires.1 c.requires.2 (done₀ g t (goal.at.put_step-put-sw-requires g t c).After-size) (done₁ g t (goal.at.put_step-put-sw-requires g t c).After-size-2) c.quarters-quarter.ensures.sw.1)

pub put_step-overflow_add-at3 : goal.put_step-overflow_add-at3
put_step-overflow_add-at3 g t c = omega (arith, fits_se c.requires.1 c.requires.2 (done₀ g t (goal.at.put_step-overflow_add-at3 g t c).After-size) (done₁ g t (goal.at.put_step-overflow_add-at3 g t c).After-size-2) (done₂ g t (goal.at.put_step-overflow_add-at3 g t c).After-size-3))

pub put_step-put-se-requires : goal.put_step-put-se-requires
put_step-put-se-requires g t c κs within = search (rules, place_se c.requires.1 c.requires.2 (done₀ g t (goal.at.put_step-put-se-requires g t c).After-size) (done₁ g t (goal.at.put_step-put-se-requires g t c).After-size-2) (done₂ g t (goal.at.put_step-put-se-requires g t c).After-size-3) c.quarters-quarter.ensures.se.1)

-- the four together
all : (g : Over) (t : ℕ) (c : put_step-After-put-se g t) →
    let m = g.P.Picture in
    let b = c.args.block in
    Ready (m.colour_at c.args.picture.now) c.args.out.now c.put-se.new.out c.args.at (m.level_of b - 1) (m.code_of b) (number_of c.put-nw.result) (number_of c.put-ne.result) (number_of c.put-sw.result) (number_of c.put-se.result)
all g t c =
    all_done c.requires.1 c.requires.2 (done₀ g t (goal.at.put_step-After-put-se g t c).After-size) (done₁ g t (goal.at.put_step-After-put-se g t c).After-size-2) (done₂ g t (goal.at.put_step-After-put-se g t c).After-size-3) (done₃ g t c)

pub put_step-finish-requires : goal.put_step-finish-requires
put_step-finish-requires g t c =
    let f = (all g t (goal.at.put_step-finish-requires g t c).After-put-se).finishes in
    (omega (arith, c.spot.ensures.1, c.requires.1.some), rw (c.spot.ensures.0, c.spot.ensures.1) f)

pub put_step-returns-clause-part : goal.put_step-returns-clause-part
put_step-returns-clause-part g t c =
    let h = (goal.at.put_step-returns-clause-part g t c).After-put-se in
    c.finish.ensures.part ∙ all_part c.requires.1 c.requires.2 (done₀ g t (goal.at.put_step-After-put-se g t h).After-size) (done₁ g t (goal.at.put_step-After-put-se g t h).After-size-2) (done₂ g t (goal.at.put_step-After-put-se g t h).After-size-3) (done₃ g t h)

pub put_step-returns-clause-left : goal.put_step-returns-clause-left
put_step-returns-clause-left g t c =
    let h = (goal.at.put_step-returns-clause-left g t c).After-put-se in
    c.finish.ensures.left
    ∙ rw (c.spot.ensures.0, c.spot.ensures.1) refl
    ∙ all_wrote c.requires.1 c.requires.2 (done₀ g t (goal.at.put_step-After-put-se g t h).After-size) (done₁ g t (goal.at.put_step-After-put-se g t h).After-size-2) (done₂ g t (goal.at.put_step-After-put-se g t h).After-size-3) (done₃ g t h)
