-- What the calls promise, stated without the way they find it.
use Rattle.std.specs.Prelude.{◌≡◌, List, ◌↔◌, ℕ, ◌+◌, ◌*◌, ◌^◌, ◌<◌, ◌≤◌, ℤ, pos, length, drop, get_or, Result}
use Rattle.std.proofs.Common.{subst}
use Rattle.refusal.specs.Answer.{Answer, gives, refuses}
use Rattle.refusal.specs.Read.{answered}
use Rattle.refusal.specs.Laws.OneAnswer.{one_answer}
use Rattle.refusal.specs.declared.Refusal.{Refusal}
use Rattle.tiling.specs.Leaf.{colours}
use Rattle.tiling.specs.Map.{limit, colour_at, colour_in}
use Rattle.tiling.specs.WellFormed.{WellFormed}
use Rattle.place.specs.Placing.{placed}
use Rattle.place.specs.Allowed.{Places, Lies}
use Rattle.place.specs.Laws.Exactly.{places, from_places, lies, from_lies}
use Rattle.place.specs.declared.Ground.{Ground}
use Rattle.place.specs.declared.Place.{Place}
use Rattle.place.specs.declared.Place.TheVariants.{OnGround}
use Rattle.place.specs.declared.Shift.{Shift}
use Rattle.shortest.specs.Shortest.{shortest, ShowsPicture}
use Rattle.shortest.specs.Demand.{IsShortest, NoRoom}
use Rattle.shortest.specs.Outcome.{Outcome, fitting, left}
use Rattle.rasters.specs.Raster.{pixel}
use Rattle.lookups.specs.Lists.{list_check, cell_lookup}
use Rattle.lookups.specs.Neighbour.{neighbour}
use Rattle.conversions.specs.Rasters.{raster_to_list, list_to_raster}
use Rattle.lookups.specs.Allowed.{Checks, Looks, Nears}
use Rattle.conversions.specs.Allowed.{Lists, Rasters}
use Rattle.overlays.specs.Allowed.{Overlays, Windows}
use Rattle.overlays.specs.Overlay.{window_of, window_cell, overlay_cell, by_code, overlaid, windowed}
use Rattle.shortest.specs.Laws.Promises.{refused_keeps, given_keeps}
use Rattle.shortest.proofs.Promises.{only}
use Rattle.conversions.specs.Laws.Promises.{list_refused, list_shown, raster_shown}
use Rattle.overlays.specs.Laws.Promises.{overlay_refused, window_refused, overlay_list, window_list}
use Rattle.refusal.specs.Rules as rule
use Rattle.overlays.specs.Laws.Overlays.{overlaid_allowed, allowed_overlaid, windows, from_windows, shown}
use Rattle.overlays.specs.declared.Window.{Window}
use Rattle.overlays.specs.declared.Frame.{Frame}
use Rattle.painter.specs.declared.operations.Operation.{Operation}
use Rattle.lookups.specs.Laws.Exactly.{checks, from_checks, looks_up, from_looks, nears_by, from_nears}
use Rattle.conversions.specs.Laws.Cells.{lists, from_lists, rasters, from_rasters, list_back, raster_back, raster_same}
use Rattle.lookups.specs.declared.neighbours.Direction.{Direction}

-- Two results that a call's contract allows are equal. The contracts are the two hypotheses, with the call's definition for a.
pub one_counted : (a : Answer ℕ) (r s : Result ℕ Refusal) → answered r ≡ a → answered s ≡ a → r ≡ s
one_counted = one_answer

pub one_looked : (a : Answer ℕ) (r s : Result ℕ Refusal) → answered r ≡ a → answered s ≡ a → r ≡ s
one_looked = one_answer

pub one_near : (a : Answer ℕ) (r s : Result ℕ Refusal) → answered r ≡ a → answered s ≡ a → r ≡ s
one_near = one_answer

pub one_placed : (a : Answer Shift) (r s : Result Shift Refusal) → answered r ≡ a → answered s ≡ a → r ≡ s
one_placed = one_answer

-- Each answer is given exactly when it is allowed. Demand 1: a refusal names the right number.
pub check_exactly : (n : ℕ) (l : List ℕ) (a : Answer ℕ) → (list_check n l ≡ a) ↔ Checks n l a
check_exactly n l a = (λ e. subst (λ x. Checks n l x) e (checks n l), from_checks n l a)

pub lookup_exactly : (n : ℕ) (l : List ℕ) (row column : ℤ) (a : Answer ℕ) → (cell_lookup n l row column ≡ a) ↔ Looks n l row column a
lookup_exactly n l row column a = (λ e. subst (λ x. Looks n l row column x) e (looks_up n l row column), from_looks n l row column a)

pub neighbour_exactly : (n k level : ℕ) (d : Direction) (a : Answer ℕ) → (neighbour n k level d ≡ a) ↔ Nears n k level d a
neighbour_exactly n k level d a = (λ e. subst (λ x. Nears n k level d x) e (nears_by n k level d), from_nears n k level d a)

pub placing_exactly : (p : Place) (a : Answer Shift) → (placed p ≡ a) ↔ Places p a
placing_exactly p a = (λ e. subst (λ x. Places p x) e (places p), from_places p a)

pub list_exactly : (n : ℕ) (cells : List ℕ) (space : ℕ) → ((j : ℕ) → pixel n cells j < colours) → (a : Outcome)
    → (raster_to_list n cells space ≡ a) ↔ Lists n cells space a
list_exactly n cells space coloured a = (λ e. subst (λ x. Lists n cells space x) e (lists n cells space coloured), from_lists n cells space coloured a)

pub raster_exactly : (n : ℕ) (l : List ℕ) (space : ℕ) (a : Outcome) → (list_to_raster n l space ≡ a) ↔ Rasters n l space a
raster_exactly n l space a = (λ e. subst (λ x. Rasters n l space x) e (rasters n l space), from_rasters n l space a)

-- Demand 2: on the ground a shift is given exactly if, times the cell side, it is the difference of the corners, nothing rounded.
pub shift_exactly : (a b : Ground) (dy dx : ℤ) → (placed (OnGround a b) ≡ gives (record { dy = dy; dx = dx })) ↔ Lies a b dy dx
shift_exactly a b dy dx = (lies a b dy dx, from_lies a b dy dx)

pub overlay_exactly : (o : Operation) (n : ℕ) (a : List ℕ) (m : ℕ) (b : List ℕ) (s : Shift) (f : Frame) (space : ℕ) (x : Outcome)
    → (overlaid o n a m b s f space ≡ x) ↔ Overlays o n a m b s (window_of n f) space x
overlay_exactly o n a m b s f space x =
    (λ e. subst (λ y. Overlays o n a m b s (window_of n f) space y) e (overlaid_allowed o n a m b s f space), allowed_overlaid o n a m b s f space x)

pub window_exactly : (n : ℕ) (a : List ℕ) (w : Window) (space : ℕ) (x : Outcome) → (windowed n a w space ≡ x) ↔ Windows n a w space x
window_exactly n a w space x = (λ e. subst (λ y. Windows n a w space y) e (windows n a w space), from_windows n a w space x)

-- Demand 2: each cell of an accepted list has the colour that the operation gives under the shift, cells beyond either map included, and
-- the list tiles its window.
pub overlay_cells : (o : Operation) (n : ℕ) (a : List ℕ) (m : ℕ) (b : List ℕ) (s : Shift) (f : Frame) (space : ℕ) (l : List ℕ) → overlaid o n a m b s f space ≡ gives l
    → WellFormed (window_of n f).size l
    × ((y x : ℕ) → y < 2 ^ (window_of n f).size → x < 2 ^ (window_of n f).size → colour_in (window_of n f).size l (pos y) (pos x) ≡ overlay_cell o n a m b s (window_of n f) y x)
overlay_cells o n a m b s f space l e = let z = overlay_list o n a m b s f space l e in (z.1.formed, shown _ _ l z.0 z.1)

pub window_cells : (n : ℕ) (a : List ℕ) (w : Window) (space : ℕ) (l : List ℕ) → windowed n a w space ≡ gives l
    → WellFormed w.size l × ((y x : ℕ) → y < 2 ^ w.size → x < 2 ^ w.size → colour_in w.size l (pos y) (pos x) ≡ window_cell n a w y x)
window_cells n a w space l e = let z = window_list n a w space l e in (z.1.formed, shown _ _ l z.0 z.1)

pub list_cells : (n : ℕ) (cells : List ℕ) (space : ℕ) → ((j : ℕ) → pixel n cells j < colours) → (l : List ℕ) → raster_to_list n cells space ≡ gives l
    → WellFormed n l × ((y x : ℕ) → y < 2 ^ n → x < 2 ^ n → colour_in n l (pos y) (pos x) ≡ get_or cells (y * 2 ^ n + x) 0)
list_cells n cells space coloured l e = let z = list_shown n cells space coloured l e in (z.1.formed, raster_shown n cells l z.0 z.1)

-- Demand 3: "no room" is said exactly when no list that shows the picture fits, with the length of the shortest. (That it is said
-- then is `overlay_exactly`, `window_exactly` and `list_exactly`.)
pub overlay_room : (o : Operation) (n : ℕ) (a : List ℕ) (m : ℕ) (b : List ℕ) (s : Shift) (f : Frame) (space k : ℕ)
    → overlaid o n a m b s f space ≡ refuses rule.no_room k → NoRoom (by_code (overlay_cell o n a m b s (window_of n f))) (window_of n f).size space k
overlay_room = overlay_refused

pub window_room : (n : ℕ) (a : List ℕ) (w : Window) (space k : ℕ) → windowed n a w space ≡ refuses rule.no_room k → NoRoom (by_code (window_cell n a w)) w.size space k
window_room = window_refused

pub list_room : (n : ℕ) (cells : List ℕ) (space : ℕ) → ((j : ℕ) → pixel n cells j < colours) → (k : ℕ)
    → raster_to_list n cells space ≡ refuses rule.no_room k → NoRoom (pixel n cells) n space k
list_room = list_refused

-- Demand 3: an accepted list is the shortest, and the only one of its length.
pub overlay_shortest : (o : Operation) (n : ℕ) (a : List ℕ) (m : ℕ) (b : List ℕ) (s : Shift) (f : Frame) (space : ℕ) (l : List ℕ)
    → overlaid o n a m b s f space ≡ gives l → IsShortest (by_code (overlay_cell o n a m b s (window_of n f))) (window_of n f).size l
overlay_shortest o n a m b s f space l e = (overlay_list o n a m b s f space l e).1

pub window_shortest : (n : ℕ) (a : List ℕ) (w : Window) (space : ℕ) (l : List ℕ) → windowed n a w space ≡ gives l → IsShortest (by_code (window_cell n a w)) w.size l
window_shortest n a w space l e = (window_list n a w space l e).1

pub list_shortest : (n : ℕ) (cells : List ℕ) (space : ℕ) → ((j : ℕ) → pixel n cells j < colours) → (l : List ℕ)
    → raster_to_list n cells space ≡ gives l → IsShortest (pixel n cells) n l
list_shortest n cells space coloured l e = (list_shown n cells space coloured l e).1

pub shortest_only : (f : ℕ → ℕ) (n : ℕ) (l : List ℕ) → n ≤ limit → ((k : ℕ) → f k < colours) → IsShortest f n l
    → (other : List ℕ) → WellFormed n other → ShowsPicture f n other → length other ≤ length l → other ≡ l
shortest_only = only

-- Demand 1: a refusal changes nothing in the memory lent; past the words written nothing changes. For every call that writes.
pub unchanged : (x : Outcome) (r k : ℕ) (old : List ℕ) → x ≡ refuses r k → left x old ≡ old
unchanged = refused_keeps

pub rest_unchanged : (x : Outcome) (l old : List ℕ) → x ≡ gives l → drop (length l) (left x old) ≡ drop (length l) old
rest_unchanged = given_keeps

-- A raster's list gives the raster back.
pub list_and_back : (n : ℕ) (cells : List ℕ) (space : ℕ) (l : List ℕ) → ((j : ℕ) → pixel n cells j < colours)
    → raster_to_list n cells space ≡ gives l → list_to_raster n l (4 ^ n) ≡ gives cells
list_and_back = list_back

-- A list's raster gives the shortest list of the list's picture back, and the list itself exactly if it was the shortest.
pub raster_and_back : (n : ℕ) (l : List ℕ) (space : ℕ) (cells : List ℕ) (room : ℕ) → list_to_raster n l space ≡ gives cells
    → raster_to_list n cells room ≡ fitting (shortest (colour_at l) n 0) room
raster_and_back = raster_back

pub raster_and_same : (n : ℕ) (l : List ℕ) (space : ℕ) (cells : List ℕ) → list_to_raster n l space ≡ gives cells
    → (raster_to_list n cells (length l) ≡ gives l) ↔ IsShortest (colour_at l) n l
raster_and_same = raster_same
