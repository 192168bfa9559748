-- From a raster to its list and back, and from a list to its raster and back.
use Rattle.std.specs.Prelude.{◌≡◌, List, ℕ, ◌+◌, ◌*◌, ◌/◌, ◌%◌, ◌^◌, ◌<◌, ◌≤◌, length}
use Rattle.std.proofs.Common.{sym, ap₂, ◌∙◌, div-add-mod', div-lt_iff_lt-mul, mod-lt, arith, pow_pos, pow_mono}
use Rattle.std.proofs.Math.Path.{ap}
use Rattle.std.proofs.Math.Nat.{pow-le-pow_right}
use Rattle.std.proofs.Math.Decide.{dec_lt}
use Rattle.std.proofs.Math.Arith.{digits_div, digits_mod}
use Rattle.std.proofs.Math.ListN.{get_or, get_or-eq_default}
use Rattle.morton.specs.Code.{code, row_of, column_of}
use Rattle.morton.specs.Power.{highest}
use Rattle.morton.specs.Laws.Code.{code_inside}
use Rattle.morton.specs.Laws.Cell.{code_of_cell, cell_inside}
use Rattle.tiling.specs.Leaf.{colours}
use Rattle.tiling.specs.Map.{colour_at}
use Rattle.tiling.specs.Laws.Colour.{colour_lt}
use Rattle.shortest.specs.Shortest.{shortest}
use Rattle.shortest.proofs.Demand.{shortest_is}
use Rattle.shortest.proofs.Only.{same-shortest}
use Rattle.rasters.specs.Raster.{pixel, place_colour, raster_of}
use Rattle.rasters.specs.Laws.Pixel.{square, place_lt, pixel-at}
use Rattle.rasters.specs.Laws.Places.{raster_length_lem, raster_at, raster_by_cell}

module _ (n : ℕ) (low : n ≤ highest) where
  wide : 2 ^ n ≤ 2 ^ 15
  wide = pow_mono low

  -- the row and the column of a place
  pub place_row : (i : ℕ) → i < 4 ^ n → (i / 2 ^ n < 2 ^ n) × (i % 2 ^ n < 2 ^ n)
  place_row i h = ((div-lt_iff_lt-mul {k = 2 ^ n} {x = i} {y = 2 ^ n} (pow_pos n)).1 (rw (square n) h), mod-lt i (pow_pos n))

  module _ (cells : List ℕ) (len : length cells ≡ 4 ^ n) (coloured : (j : ℕ) → pixel n cells j < colours) where
    -- at each place a raster's list shows its cell
    list_shows : (i : ℕ) → i < 4 ^ n → get_or cells i 0 ≡ place_colour n (shortest (pixel n cells) n 0) i
    list_shows i h =
        let p = place_row i h in
        let r : ℕ = i / 2 ^ n in
        let c : ℕ = i % 2 ^ n in
        sym (
        (shortest_is (pixel n cells) n (omega arith) coloured).shows (code r c) (code_inside n r c (omega arith) p.0 p.1)
        ∙ pixel-at n cells r c (omega (arith, wide)) (omega (arith, wide))
        ∙ ap (λ (j : ℕ). get_or cells j 0) (div-add-mod' i (2 ^ n)))

    -- the raster of a raster's list is the raster
    pub list_and_back : raster_of n (shortest (pixel n cells) n 0) ≡ cells
    list_and_back = sym (raster_by_cell n (shortest (pixel n cells) n 0) cells len list_shows)

  -- the picture of a list's raster is the list's
  raster_pixel : (l : List ℕ) (k : ℕ) → k < 4 ^ n → pixel n (raster_of n l) k ≡ colour_at l k
  unfolding pixel
  raster_pixel l k h =
      let q : 4 ^ n ≤ 4 ^ 15 = pow-le-pow_right (omega arith) low in
      let p = cell_inside n k (omega arith) h in
      raster_at n l (row_of k * 2 ^ n + column_of k) (place_lt n (row_of k) (column_of k) p.0 p.1)
      ∙ ap (colour_at l) (ap₂ code (digits_div (row_of k) p.1) (digits_mod (row_of k) p.1) ∙ code_of_cell k (omega arith))

  raster_coloured : (l : List ℕ) (k : ℕ) → pixel n (raster_of n l) k < colours
  unfolding pixel
  raster_coloured l k = go (dec_lt (row_of k * 2 ^ n + column_of k) (4 ^ n))
    where
      go : Dec (row_of k * 2 ^ n + column_of k < 4 ^ n) → get_or (raster_of n l) (row_of k * 2 ^ n + column_of k) 0 < colours
      go (yes h) = rw (raster_at n l (row_of k * 2 ^ n + column_of k) h) (colour_lt l _)
      go (no h) = rw (get_or-eq_default (raster_of n l) 0 {n = row_of k * 2 ^ n + column_of k} (omega (arith, raster_length_lem n l))) (omega arith)

  -- the shortest list of a list's raster is that of the list's picture
  pub raster_and_back : (l : List ℕ) → shortest (pixel n (raster_of n l)) n 0 ≡ shortest (colour_at l) n 0
  raster_and_back l = same-shortest (colour_at l) n (omega arith) (colour_lt l) (pixel n (raster_of n l)) (raster_coloured l) (raster_pixel l)
