-- `shortest::put` ends since the level falls; a block that is looked at closer comes after it, and its step after that.
use Rattle.std.proofs.Common.{suc, ◌*◌}
use Rattle.shortest.proofs.walk.+puts.Given as goal

abbrev pub decreases-put : goal.decreases-put
decreases-put g l = suc (suc (3 * g.P.Picture.level_of l.block))

abbrev pub decreases-put_quarters : goal.decreases-put_quarters
decreases-put_quarters g l = suc (3 * g.P.Picture.level_of l.block)

abbrev pub decreases-put_step : goal.decreases-put_step
decreases-put_step g l = 3 * g.P.Picture.level_of l.block
