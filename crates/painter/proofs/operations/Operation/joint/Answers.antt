-- `painter::Operation::joint` meets its contract: by which of the two maps is known.
use Rattle.painter.proofs.operations.Operation.joint.Goals as goal

pub returns-in-One-Mixed : goal.returns-in-One-Mixed
returns-in-One-Mixed c = let k = c.in-One-Mixed in rw (k.is-0, k.is-1) (c.first_alone.ensures k.field-0-1)

pub returns-in-Mixed-One : goal.returns-in-Mixed-One
returns-in-Mixed-One c = let k = c.in-Mixed-One in rw (k.is-0, k.is-1) (c.second_alone.ensures k.field-0-0)
