-- What stands in a raster: a list of cells is the raster of a list if each cell has the colour of its place.
use Rattle.std.specs.Prelude.{◌≡◌, refl, List, ◌++◌, ℕ, zero, suc, ◌+◌, ◌^◌, ◌<◌, length, get_or, drop}
use Rattle.std.proofs.Common.{sym, ◌∙◌, append-nil, not-suc-le-zero, le_of_suc-le-suc, zero-add, arith, drop_of_length-le, ext_get_or}
use Rattle.std.proofs.Math.Path.{ap}
use Rattle.rasters.specs.Raster.{places, place_colour, raster_of}

pub places-length : (f : ℕ → ℕ) (count i : ℕ) → length (places f count i) ≡ count
unfolding places
places-length f zero i = refl
places-length f (suc count) i = ap suc (places-length f count (suc i))

pub places-at : (f : ℕ → ℕ) (count i j : ℕ) → j < count → get_or (places f count i) j 0 ≡ f (i + j)
unfolding places
places-at f zero i j h = absurd (not-suc-le-zero h)
places-at f (suc count) i zero h = ap f (omega arith)
places-at f (suc count) i (suc j) h = places-at f count (suc i) j (le_of_suc-le-suc h) ∙ ap f (omega arith)

module _ (n : ℕ) (l : List ℕ) where
  pub raster_length_lem : length (raster_of n l) ≡ 4 ^ n
  unfolding raster_of
  raster_length_lem = places-length (place_colour n l) (4 ^ n) 0

  pub raster_at : (i : ℕ) → i < 4 ^ n → get_or (raster_of n l) i 0 ≡ place_colour n l i
  unfolding raster_of
  raster_at i h = places-at (place_colour n l) (4 ^ n) 0 i h ∙ ap (place_colour n l) (zero-add i)

  pub raster_by_cell : (cells : List ℕ) → length cells ≡ 4 ^ n → ((i : ℕ) → i < 4 ^ n → get_or cells i 0 ≡ place_colour n l i) → cells ≡ raster_of n l
  raster_by_cell cells e h =
      ext_get_or 0 cells (raster_of n l) (e ∙ sym raster_length_lem)
      (λ i g. let k : i < 4 ^ n = omega arith in h i k ∙ sym (raster_at i k))

  -- nothing is left of the memory that a raster is written to
  pub raster_left : (old : List ℕ) → length old ≡ 4 ^ n → raster_of n l ++ drop (length (raster_of n l)) old ≡ raster_of n l
  raster_left old e =
      ap (λ d. raster_of n l ++ d) (drop_of_length-le old {i = length (raster_of n l)} (omega (arith, raster_length_lem))) ∙ append-nil (raster_of n l)
