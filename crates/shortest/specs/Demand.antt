-- The shortest list is what its name says, judged over all well formed lists that show the picture and not over the rule that makes it.
use Rattle.std.specs.Prelude.{◌≡◌, List, ℕ, ◌≤◌, ◌<◌, length}
use Rattle.tiling.specs.WellFormed.{WellFormed}
use Rattle.shortest.specs.Shortest.{ShowsPicture}

-- a list that shows the picture over the square of size n, and is no longer than any other that does
pub record IsShortest (f : ℕ → ℕ) (n : ℕ) (l : List ℕ) : Type 0 where
  pub formed : WellFormed n l
  pub shows : ShowsPicture f n l
  pub least : (other : List ℕ) → WellFormed n other → ShowsPicture f n other → length l ≤ length other

-- k is the length of the shortest list of a picture: one well formed list that shows it has that length, and none is shorter; none fits
pub record NoRoom (f : ℕ → ℕ) (n space k : ℕ) : Type 0 where
  pub list : List ℕ
  pub formed : WellFormed n list
  pub shows : ShowsPicture f n list
  pub long : length list ≡ k
  pub none_shorter : (other : List ℕ) → WellFormed n other → ShowsPicture f n other → k ≤ length other
  pub none_fits : (other : List ℕ) → WellFormed n other → ShowsPicture f n other → space < length other
