-- A block of level L: a square of side 2 ^ L, whose code is that of its upper left cell, and its quarters.
use Rattle.std.specs.Prelude.{◌≡◌, ℕ, ◌+◌, ◌*◌, ◌-◌, ◌%◌, ◌^◌, ◌≤◌}
use Rattle.morton.specs.Code.{code}
use Rattle.morton.specs.Power.{highest}

-- the block of the level at the code k is the aligned square at row y, column x
pub record Block (k y x level : ℕ) : Type 0 where
  pub is : k ≡ code y x
  pub rows : y % 2 ^ level ≡ 0
  pub columns : x % 2 ^ level ≡ 0
  pub fits : k + 4 ^ level ≤ 4 ^ highest
  pub bottom : y + 2 ^ level ≤ 2 ^ highest
  pub right : x + 2 ^ level ≤ 2 ^ highest

-- its quarters in the order NW, NE, SW, SE, of level L, side h and area q
pub record Quarters (k y x L h q : ℕ) : Type 0 where
  pub nw : Block k y x L
  pub ne : Block (k + q) y (x + h) L
  pub sw : Block (k + 2 * q) (y + h) x L
  pub se : Block (k + 3 * q) (y + h) (x + h) L
  pub codes : k + 4 * q ≤ 4 ^ highest
  pub bottom : y + 2 * h ≤ 2 ^ highest
  pub right : x + 2 * h ≤ 2 ^ highest

-- (k', y', x', L') is the quarter i to the south and j to the east of the block of level L + 1 at (k, y, x)
pub record Quartered (k y x L i j k' y' x' L' : ℕ) : Type 0 where
  pub code : k' ≡ k + (2 * i + j) * 4 ^ L
  pub row : y' ≡ y + i * 2 ^ L
  pub column : x' ≡ x + j * 2 ^ L
  pub level : L' ≡ L

-- (k', L') are the code and the level of the quarter i of the block of level L at the code k
pub record Quarter (k L i k' L' : ℕ) : Type 0 where
  pub code : k' ≡ k + i * 4 ^ (L - 1)
  pub level : L' ≡ L - 1
