-- `shortest::count` ends since the level falls; a block that is looked at closer comes after it, and its step after that.
use Rattle.std.proofs.Common.{suc, ◌*◌}
use Rattle.shortest.proofs.walk.+counts.Given as goal

abbrev pub decreases-count : goal.decreases-count
decreases-count g l = suc (suc (3 * g.P.Picture.level_of l.block))

abbrev pub decreases-count_quarters : goal.decreases-count_quarters
decreases-count_quarters g l = suc (3 * g.P.Picture.level_of l.block)

abbrev pub decreases-count_step : goal.decreases-count_step
decreases-count_step g l = 3 * g.P.Picture.level_of l.block
