-- What each call answers, by what was found on the way to the answer.
use Rattle.std.specs.Prelude.{◌≡◌, List, ℕ, ◌^◌, ◌<◌, ◌≤◌, length, Ok, Err}
use borrow.Author.Tests.{lt-ltb, le-ltb, eq-eqb, ne_eqb}
use Rattle.refusal.specs.Rules as rule
use Rattle.refusal.specs.Answer.{gives, refuses}
use Rattle.tiling.specs.Map.{limit}
use Rattle.tiling.specs.Check.{checked}
use Rattle.shortest.specs.Shortest.{shortest}
use Rattle.shortest.specs.Outcome.{fitting}
use Rattle.rasters.specs.Raster.{pixel, raster_of}
use Rattle.conversions.specs.Rasters.{raster_to_list, list_to_raster}

module _ (n : ℕ) (cells : List ℕ) (space : ℕ) where
  pub list_size : limit < n → raster_to_list n cells space ≡ refuses rule.size 0
  unfolding raster_to_list
  list_size h = rw (lt-ltb limit n h)

  module _ (hn : n ≤ limit) where
    pub list_length : (length cells ≡ 4 ^ n → ⊥) → raster_to_list n cells space ≡ refuses rule.raster_length 0
    unfolding raster_to_list
    list_length h = rw (le-ltb limit n hn, ne_eqb (length cells) (4 ^ n) h)

    pub list_fits : length cells ≡ 4 ^ n → raster_to_list n cells space ≡ fitting (shortest (pixel n cells) n 0) space
    unfolding raster_to_list
    list_fits h = rw (le-ltb limit n hn, eq-eqb (length cells) (4 ^ n) h)

module _ (n : ℕ) (l : List ℕ) (space : ℕ) where
  pub raster_size : limit < n → list_to_raster n l space ≡ refuses rule.size 0
  unfolding list_to_raster
  raster_size h = rw (lt-ltb limit n h)

  module _ (hn : n ≤ limit) where
    pub raster_wrong_length : (space ≡ 4 ^ n → ⊥) → list_to_raster n l space ≡ refuses rule.raster_length 0
    unfolding list_to_raster
    raster_wrong_length h = rw (le-ltb limit n hn, ne_eqb space (4 ^ n) h)

    module _ (h : space ≡ 4 ^ n) where
      pub raster_wrong : (i : ℕ) → checked n l ≡ Err i → list_to_raster n l space ≡ refuses rule.first_list i
      unfolding list_to_raster
      raster_wrong i e = rw (le-ltb limit n hn, eq-eqb space (4 ^ n) h, e)

      pub raster_gives : checked n l ≡ Ok tt → list_to_raster n l space ≡ gives (raster_of n l)
      unfolding list_to_raster
      raster_gives e = rw (le-ltb limit n hn, eq-eqb space (4 ^ n) h, e)
