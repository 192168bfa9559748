-- What is promised of a step of the walk down a picture.
use Rattle.std.specs.Prelude.{ℕ, ◌+◌, ◌^◌, ◌≤◌, ◌<◌}
use Rattle.morton.specs.Power.{highest}
use Rattle.tiling.specs.Leaf.{colours}
use Rattle.shortest.specs.declared.walk.Look.{Look}
use Rattle.shortest.specs.declared.walk.Look.TheVariants.{One, Small, Closer}

-- one fact of the colour that was seen, another of a small block, another of a block whose quarters are to be looked at
abbrev pub Sees : {B : Type 0} → Look B → (ℕ → Type 0) → (B → Type 0) → (B → Type 0) → Type 0
Sees (One c) P Q R = P c
Sees (Small b) P Q R = Q b
Sees (Closer b) P Q R = R b

-- the block of level L at the code k of the picture f has quarters, and lies within the largest square; colours are below 256
pub record Divisible (f : ℕ → ℕ) (L k : ℕ) : Type 0 where
  pub coloured : (j : ℕ) → f j < colours
  pub some : 0 < L
  pub low : L ≤ highest
  pub codes : k + 4 ^ L ≤ 4 ^ highest
