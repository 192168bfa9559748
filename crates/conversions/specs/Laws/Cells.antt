-- Raster to list and back: what comes of each call is what is allowed, and the two undo one another.
use Rattle.std.specs.Prelude.{◌≡◌, refl, List, ◌↔◌, ℕ, ◌+◌, ◌*◌, ◌/◌, ◌%◌, ◌^◌, ◌<◌, ◌≤◌, pos, length, get_or, Result, Ok, Err}
use Rattle.std.proofs.Common.{sym, ap, ◌∙◌, subst, div-add-mod', arith, lt-ltb}
use Rattle.std.proofs.Math.Decide.{dec_le, ℕ_discrete}
use Rattle.std.proofs.Math.Arith.{digits_div, digits_mod}
use Rattle.refusal.specs.Rules as rule
use Rattle.refusal.specs.Answer.{gives, refuses}
use Rattle.morton.specs.Code.{code}
use Rattle.tiling.specs.Leaf.{colours}
use Rattle.tiling.specs.Map.{limit, colour_at, colour_in, within}
use Rattle.tiling.specs.Check.{checked}
use Rattle.tiling.specs.WellFormed.{WellFormed}
use Rattle.tiling.specs.Laws.Tests.{both_and}
use Rattle.tiling.specs.Laws.Check.{tiles_formed, formed_tiles}
use Rattle.tiling.specs.Laws.Colour.{colour_inside, colour_lt}
use Rattle.tiling.proofs.FirstWrong.{wrong_first, first_wrong}
use Rattle.shortest.specs.Shortest.{shortest}
use Rattle.shortest.specs.Demand.{IsShortest}
use Rattle.shortest.proofs.Demand.{shortest_is}
use Rattle.shortest.specs.Outcome.{Outcome, fitting}
use Rattle.shortest.proofs.Only.{only_shortest}
use Rattle.shortest.specs.Laws.Outcome.{fitting_gives, fitting_refuses}
use Rattle.rasters.specs.Raster.{pixel, raster_of}
use Rattle.rasters.specs.Laws.Pixel.{place_lt}
use Rattle.rasters.specs.Laws.Places.{raster_length_lem, raster_at, raster_by_cell}
use Rattle.rasters.specs.Laws.RoundTrip.{list_and_back, raster_and_back, place_row}
use Rattle.conversions.specs.Rasters.{raster_to_list, list_to_raster}
use Rattle.conversions.specs.Allowed.{Lists, Rasters}
use Rattle.conversions.specs.Laws.Ways.{list_size, list_length, list_fits, raster_size, raster_wrong_length, raster_wrong, raster_gives}

module _ (n : ℕ) (cells : List ℕ) (space : ℕ) (coloured : (j : ℕ) → pixel n cells j < colours) where
  abbrev s : List ℕ
  s = shortest (pixel n cells) n 0

  pub lists : Lists n cells space (raster_to_list n cells space)
  lists = go (dec_le n limit)
    where
      whole : n ≤ limit → length cells ≡ 4 ^ n → Dec (length s ≤ space) → Lists n cells space (raster_to_list n cells space)
      whole h e (yes f) =
          rw (list_fits n cells space h e ∙ fitting_gives s space f) (Lists.right h e (shortest_is (pixel n cells) n (omega arith) coloured) f)
      whole h e (no f) =
          rw (list_fits n cells space h e ∙ fitting_refuses s space (omega arith)) (Lists.room h e (shortest_is (pixel n cells) n (omega arith) coloured) (omega arith))

      long : n ≤ limit → Dec (length cells ≡ 4 ^ n) → Lists n cells space (raster_to_list n cells space)
      long h (yes e) = whole h e (dec_le (length s) space)
      long h (no e) = rw (list_length n cells space h e) (Lists.raster h e)

      go : Dec (n ≤ limit) → Lists n cells space (raster_to_list n cells space)
      go (yes h) = long h (ℕ_discrete (length cells) (4 ^ n))
      go (no h) = rw (list_size n cells space (omega arith)) (Lists.size (omega arith))

  pub from_lists : (a : Outcome) → Lists n cells space a → raster_to_list n cells space ≡ a
  from_lists a (Lists.size h) = list_size n cells space h
  from_lists a (Lists.raster h e) = list_length n cells space h e
  from_lists a (Lists.room {l = l} h e i f) =
      let o = only_shortest (pixel n cells) n (omega arith) coloured l i in
      list_fits n cells space h e ∙ fitting_refuses s space (omega (arith, ap length o)) ∙ ap (refuses rule.no_room) (sym (ap length o))
  from_lists a (Lists.right {l = l} h e i f) =
      let o = only_shortest (pixel n cells) n (omega arith) coloured l i in
      list_fits n cells space h e ∙ fitting_gives s space (omega (arith, ap length o)) ∙ ap gives (sym o)

-- the colour of the cell at a place, by its row and column
module _ (n : ℕ) (l : List ℕ) (h : n ≤ limit) where
  inside_colour : (r c : ℕ) → r < 2 ^ n → c < 2 ^ n → colour_in n l (pos r) (pos c) ≡ colour_at l (code r c)
  inside_colour r c hr hc = colour_inside n l (pos r) (pos c) (both_and (within n (pos r)) (within n (pos c)) (lt-ltb r (2 ^ n) hr) (lt-ltb c (2 ^ n) hc))

  raster_cell : (r c : ℕ) → r < 2 ^ n → c < 2 ^ n → get_or (raster_of n l) (r * 2 ^ n + c) 0 ≡ colour_in n l (pos r) (pos c)
  raster_cell r c hr hc =
      raster_at n l (r * 2 ^ n + c) (place_lt n r c hr hc)
      ∙ ap (colour_at l) (λ i. code (digits_div r hc i) (digits_mod r hc i))
      ∙ sym (inside_colour r c hr hc)

  cells_raster : (cells : List ℕ) → length cells ≡ 4 ^ n
      → ((r c : ℕ) → r < 2 ^ n → c < 2 ^ n → get_or cells (r * 2 ^ n + c) 0 ≡ colour_in n l (pos r) (pos c)) → cells ≡ raster_of n l
  cells_raster cells e each = raster_by_cell n l cells e (λ i g.
      let p = place_row n (omega arith) i g in
      ap (λ (j : ℕ). get_or cells j 0) (sym (div-add-mod' i (2 ^ n)))
      ∙ each (i / 2 ^ n) (i % 2 ^ n) p.0 p.1
      ∙ inside_colour (i / 2 ^ n) (i % 2 ^ n) p.0 p.1)

module _ (n : ℕ) (l : List ℕ) (space : ℕ) where
  pub rasters : Rasters n l space (list_to_raster n l space)
  rasters = go (dec_le n limit)
    where
      tiled : n ≤ limit → space ≡ 4 ^ n → (c : Result (Unit {0}) ℕ) → checked n l ≡ c → Rasters n l space (list_to_raster n l space)
      tiled h e (Err i) c = rw (raster_wrong n l space h e i c) (Rasters.list h e (wrong_first n l i c))
      tiled h e (Ok u) c =
          rw (raster_gives n l space h e c) (Rasters.right h e (tiles_formed n l c) (raster_length_lem n l) (raster_cell n l h))

      long : n ≤ limit → Dec (space ≡ 4 ^ n) → Rasters n l space (list_to_raster n l space)
      long h (yes e) = tiled h e (checked n l) refl
      long h (no e) = rw (raster_wrong_length n l space h e) (Rasters.raster h e)

      go : Dec (n ≤ limit) → Rasters n l space (list_to_raster n l space)
      go (yes h) = long h (ℕ_discrete space (4 ^ n))
      go (no h) = rw (raster_size n l space (omega arith)) (Rasters.size (omega arith))

  pub from_rasters : (a : Outcome) → Rasters n l space a → list_to_raster n l space ≡ a
  from_rasters a (Rasters.size h) = raster_size n l space h
  from_rasters a (Rasters.raster h e) = raster_wrong_length n l space h e
  from_rasters a (Rasters.list {i = i} h e f) = raster_wrong n l space h e i (first_wrong n l i f)
  from_rasters a (Rasters.right {cells = cells} h e f len each) =
      raster_gives n l space h e (formed_tiles n l f) ∙ ap gives (sym (cells_raster n l h cells len each))

-- ---- there and back

-- what a raster's list and a list's raster give, taken apart
list_given : (n : ℕ) (cells : List ℕ) (space : ℕ) (l : List ℕ) → Lists n cells space (gives l)
    → (n ≤ limit) × (length cells ≡ 4 ^ n) × IsShortest (pixel n cells) n l
list_given n cells space l (Lists.right h e i f) = (h, e, i)

raster_given : (n : ℕ) (l : List ℕ) (space : ℕ) (cells : List ℕ) → Rasters n l space (gives cells)
    → (n ≤ limit) × WellFormed n l × (cells ≡ raster_of n l)
raster_given n l space cells (Rasters.right h e f len each) = (h, f, cells_raster n l h cells len each)

pub list_back : (n : ℕ) (cells : List ℕ) (space : ℕ) (l : List ℕ) → ((j : ℕ) → pixel n cells j < colours)
    → raster_to_list n cells space ≡ gives l → list_to_raster n l (4 ^ n) ≡ gives cells
list_back n cells space l coloured e =
    let g = list_given n cells space l (subst (λ x. Lists n cells space x) e (lists n cells space coloured)) in
    let o = only_shortest (pixel n cells) n (omega (arith, g.0)) coloured l g.2 in
    raster_gives n l (4 ^ n) g.0 refl (formed_tiles n l g.2.formed)
    ∙ ap gives (ap (raster_of n) o ∙ list_and_back n (omega (arith, g.0)) cells g.1 coloured)

pub raster_back : (n : ℕ) (l : List ℕ) (space : ℕ) (cells : List ℕ) (room : ℕ) → list_to_raster n l space ≡ gives cells
    → raster_to_list n cells room ≡ fitting (shortest (colour_at l) n 0) room
raster_back n l space cells room e =
    let g = raster_given n l space cells (subst (λ x. Rasters n l space x) e (rasters n l space)) in
    list_fits n cells room g.0 (ap length g.2 ∙ raster_length_lem n l)
    ∙ ap (λ x. fitting x room) (ap (λ x. shortest (pixel n x) n 0) g.2 ∙ raster_and_back n (omega (arith, g.0)) l)

pub raster_same : (n : ℕ) (l : List ℕ) (space : ℕ) (cells : List ℕ) → list_to_raster n l space ≡ gives cells
    → (raster_to_list n cells (length l) ≡ gives l) ↔ IsShortest (colour_at l) n l
raster_same n l space cells e = (to, from)
  where
    g : (n ≤ limit) × WellFormed n l × (cells ≡ raster_of n l)
    g = raster_given n l space cells (subst (λ x. Rasters n l space x) e (rasters n l space))

    is : IsShortest (colour_at l) n (shortest (colour_at l) n 0)
    is = shortest_is (colour_at l) n (omega (arith, g.0)) (colour_lt l)

    back : raster_to_list n cells (length l) ≡ gives (shortest (colour_at l) n 0)
    back = raster_back n l space cells (length l) e ∙ fitting_gives (shortest (colour_at l) n 0) (length l) (is.least l g.1 (λ j h. refl))

    to : raster_to_list n cells (length l) ≡ gives l → IsShortest (colour_at l) n l
    to q = let o : shortest (colour_at l) n 0 ≡ l = cc (back) in subst (λ x. IsShortest (colour_at l) n x) o is

    from : IsShortest (colour_at l) n l → raster_to_list n cells (length l) ≡ gives l
    from i = back ∙ ap gives (sym (only_shortest (colour_at l) n (omega (arith, g.0)) (colour_lt l) l i))
