-- The rule makes a shortest list, and the only one.
use Rattle.std.specs.Prelude.{◌≡◌, List, ℕ, ◌≤◌, ◌<◌, length}
use Rattle.tiling.specs.Leaf.{colours}
use Rattle.tiling.specs.WellFormed.{WellFormed}
use Rattle.shortest.specs.Shortest.{shortest, ShowsPicture}
use Rattle.shortest.proofs.Paint.{shortest_paints, least}
use Rattle.shortest.specs.Laws.Tiling.{paints_formed, paints_shows, formed_paints}
use Rattle.shortest.specs.Demand.{IsShortest}

module _ (f : ℕ → ℕ) (n : ℕ) where
  -- no well formed list that shows the picture is shorter than the rule's
  pub shortest_least : (l : List ℕ) → WellFormed n l → ShowsPicture f n l → length (shortest f n 0) ≤ length l
  shortest_least l formed shows = (least (formed_paints f n l formed shows)).least

  -- and any such list of its length is the same list
  pub shortest_only : (l : List ℕ) → WellFormed n l → ShowsPicture f n l → length l ≡ length (shortest f n 0) → l ≡ shortest f n 0
  shortest_only l formed shows = (least (formed_paints f n l formed shows)).only

  -- the rule's list is well formed and shows the picture, so it is a shortest one
  pub shortest_is : n < 256 → ((j : ℕ) → f j < colours) → IsShortest f n (shortest f n 0)
  shortest_is small coloured = record {
    formed = paints_formed small (shortest_paints f coloured n 0);
    shows = paints_shows small (shortest_paints f coloured n 0);
    least = shortest_least;
  }
