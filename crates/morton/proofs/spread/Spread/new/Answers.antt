-- `morton::Spread::new` meets its contract: antt computes the test over the whole table, once.
use Rattle.std.proofs.Common.{refl}
use Rattle.morton.specs.Code.{spread}
use Rattle.morton.specs.Laws.Spread.{spreads}
use Rattle.morton.proofs.spread.Spread.new.Goals as goal

pub invariant_of-result : goal.invariant_of-result
unfolding spread
invariant_of-result c = record { spreads = spreads _ refl refl }
