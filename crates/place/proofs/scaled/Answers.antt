-- `place::scaled` meets its contract: the product by 1024 is exact, the cast is in range, and the comparison tells whether anything was cut off.
use Rattle.place.proofs.scaled.Goals.{After-nearest_i64_to_f64}
use Rattle.std.proofs.Common.{◌≡◌, Some, None, Bool, true, false, cond, pos, sym, ap, ◌∙◌, rules}
use Rattle.std.specs.Float.{fin, binary64}
use Rattle.std.specs.Float.Ieee.{of_bits, neg, eq, mul, of_int}
use Rattle.tiling.specs.Laws.Signed.{held}
use Rattle.place.specs.Placing.{in1024ths}
use Rattle.place.specs.Laws.Scaling.{scale, castable, in_range, too_low, too_high, answer}
use Rattle.place.proofs.scaled.Goals as goal

pub truncating_f64_to_i64-n-requires : goal.truncating_f64_to_i64-n-requires
unfolding of_bits neg
truncating_f64_to_i64-n-requires c =
    let x = c.args.x in
    let castable_here = castable _ _ _ _ (scale x (search rules) (in_range x c.if-x.true c.if-x-2.true)) in
    record { lower_bound = castable_here.0; upper_bound = castable_here.1 }

-- what the two calls and the comparison say, at the place behind the comparison
told : (c : After-nearest_i64_to_f64) (b : Bool) → eq c.nearest_i64_to_f64.result (mul binary64 c.args.x (fin false 1 (pos 10))) ≡ b
    → in1024ths c.args.x ≡ cond b (Some c.truncating_f64_to_i64-n.result) None
unfolding of_bits neg
told c b e =
    let n = c.truncating_f64_to_i64-n.result in
    answer c.args.x (search rules) c.if-x.true c.if-x-2.true
    n c.nearest_i64_to_f64.result b
    c.truncating_f64_to_i64-n.ensures
    (c.nearest_i64_to_f64.ensures ∙ ap (of_int binary64) (held n c.truncating_f64_to_i64-n.type_inv))
    e

pub returns-then-nearest_i64_to_f64-s : goal.returns-then-nearest_i64_to_f64-s
unfolding of_bits
returns-then-nearest_i64_to_f64-s c = ap Some (held _ c.truncating_f64_to_i64-n.type_inv) ∙ sym (told (goal.at.returns-then-nearest_i64_to_f64-s c).After-nearest_i64_to_f64 true c.if-nearest_i64_to_f64-s.true)

pub returns-else-nearest_i64_to_f64-s : goal.returns-else-nearest_i64_to_f64-s
unfolding of_bits
returns-else-nearest_i64_to_f64-s c = sym (told (goal.at.returns-else-nearest_i64_to_f64-s c).After-nearest_i64_to_f64 false c.if-nearest_i64_to_f64-s.false)

pub returns-else-x-2 : goal.returns-else-x-2
unfolding of_bits neg
returns-else-x-2 c = sym (too_high c.args.x c.if-x-2.false)

pub returns-else-x : goal.returns-else-x
unfolding of_bits neg
returns-else-x c = sym (too_low c.args.x c.if-x.false)
