-- A part of the code, as the number of specs/Part.antt.
use Rattle.std.specs.Prelude.{ℕ, ◌+◌}
use Rattle.tiling.specs.Leaf.{colours}
use Rattle.shortest.specs.declared.Part.{Part}
use Rattle.shortest.specs.declared.Part.TheVariants.{Colour, Leaves}

abbrev pub number_of : Part → ℕ
number_of (Colour c) = c
number_of (Leaves n) = colours + n
