-- `morton::gather` meets its contract, by recursion over the digits: the lowest, and those above it gathered. It ends since there are
-- fewer digits at each call.
use Rattle.morton.proofs.+gather.Given as goal

abbrev pub decreases-gather : goal.decreases-gather
decreases-gather l = l.digits
