-- What the functions that turn a raster into a list ask.
use Rattle.std.specs.Prelude.{◌≡◌, List, ℕ, ◌+◌, ◌^◌, ◌≤◌, ◌<◌, length}
use Rattle.morton.specs.Power.{highest}
use Rattle.shortest.specs.Shortest.{shortest}
use Rattle.rasters.specs.Raster.{pixel}

-- the raster of a map of size n
pub record Rastered (n : ℕ) (cells : List ℕ) : Type 0 where
  pub size : n ≤ highest
  pub whole : length cells ≡ 4 ^ n

-- a cell of a map of size n
pub record Pixel (n y x : ℕ) : Type 0 where
  pub row : y < 2 ^ n
  pub column : x < 2 ^ n

-- a square of the level at row y and column x lies within a map of size n
pub record Inside (n y x level : ℕ) : Type 0 where
  pub rows : y + 2 ^ level ≤ 2 ^ n
  pub columns : x + 2 ^ level ≤ 2 ^ n

-- there is room for the raster's shortest list
pub record Writes (n : ℕ) (cells out : List ℕ) : Type 0 where
  pub rastered : Rastered n cells
  pub fits : length (shortest (pixel n cells) n 0) ≤ length out
