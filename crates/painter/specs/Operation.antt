-- The table of the operations: the colour of a cell, from the first map's and the second's.
use Rattle.std.specs.Prelude.{cond, ℕ, eqb}
use Rattle.painter.specs.declared.operations.Operation.{Operation}
use Rattle.painter.specs.declared.operations.Operation.TheVariants.{Intersection, Union, Difference}

abbrev pub combine : Operation → ℕ → ℕ → ℕ
combine Intersection a b = cond (eqb a 0) 0 b
combine Union a b = cond (eqb a 0) b a
combine Difference a b = cond (eqb b 0) a 0
