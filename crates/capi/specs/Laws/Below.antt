-- Every answer of every call is below 2 ^ 32, so that one number has room for it and can be read back.
use Rattle.std.specs.Prelude.{◌≡◌, refl, Bool, true, false, not, List, ℕ, zero, suc, ◌+◌, ◌*◌, ◌^◌, ◌<◌, ◌≤◌, ltb, eqb, ℤ, nat_abs, length, get_or, Result, Ok, Err}
use Rattle.std.proofs.Common.{ap₂, arith, ltb-false, lt-ltb, le-ltb}
use Rattle.std.proofs.Math.Nat.{pow-le-pow_right, one-le-pow}
use Rattle.std.proofs.lemmas.Bool.{not-false}
use Rattle.refusal.specs.Rules as rule
use Rattle.refusal.specs.Answer.{Answer, gives, refuses, refuse_if}
use Rattle.refusal.specs.Judged.{refuse_wrong}
use Rattle.morton.specs.Code.{code}
use Rattle.morton.specs.Laws.Code.{code_lt}
use Rattle.tiling.specs.Leaf.{level_of}
use Rattle.tiling.specs.WellFormed.{RightAt, end_before, WellFormed, FirstWrong}
use Rattle.tiling.specs.Map.{limit, inside, colour_in}
use Rattle.tiling.specs.Laws.Check.{tiles_formed}
use Rattle.tiling.specs.Laws.Colour.{colour_inside, colour_lt}
use Rattle.tiling.specs.Check.{checked}
use Rattle.tiling.proofs.FirstWrong.{wrong_first}
use Rattle.shortest.specs.Shortest.{shortest}
use Rattle.shortest.specs.Outcome.{Outcome, fitting, written}
use Rattle.shortest.specs.Laws.Part.{shortest-size}
use Rattle.rasters.specs.Raster.{pixel}
use Rattle.rasters.specs.Laws.Places.{raster_length_lem}
use Rattle.lookups.specs.Lists.{list_check, cell_lookup}
use Rattle.lookups.specs.Neighbour.{is_block, row_away, column_away, neighbour}
use Rattle.lookups.specs.declared.neighbours.Direction.{Direction}
use Rattle.conversions.specs.Rasters.{raster_to_list, list_to_raster}
use Rattle.place.specs.Placing.{far, placed}
use Rattle.place.specs.Allowed.{FirstUnusable, InCells, OnTheGround}
use Rattle.place.specs.Laws.Exactly.{places}
use Rattle.place.specs.declared.Ground.{Ground}
use Rattle.place.specs.declared.Place.{Place}
use Rattle.place.specs.declared.Place.TheVariants.{Cells, OnGround}
use Rattle.place.specs.declared.Shift.{Shift}
use Rattle.painter.specs.declared.operations.Operation.{Operation}
use Rattle.overlays.specs.Overlay.{window_of, window_cell, overlay_cell, by_code, overlaid, windowed}
use Rattle.overlays.specs.declared.Window.{Window}
use Rattle.overlays.specs.declared.Frame.{Frame}
use Rattle.capi.specs.Code.{coded}
use Rattle.capi.specs.Below.{Below, itself, decoded}

-- ---- a position in a list whose entries are right so far is no more than the codes before it

right_ends : (n : ℕ) (l : List ℕ) (i : ℕ) → ((j : ℕ) → j < i → RightAt n l j) → i ≤ end_before l i
right_ends n l zero r = omega arith
right_ends n l (suc i) r =
    let h = right_ends n l i (λ j k. r j (omega arith)) in
    let w = get_or l i 0 in
    let f = (r i (omega arith)).follows in
    omega (arith, f, h, one-le-pow (level_of w) 4 (omega arith))

most : (n : ℕ) → n ≤ limit → 4 ^ n ≤ 4 ^ 12
most n h = pow-le-pow_right (omega arith) h

position : (n : ℕ) (l : List ℕ) (i : ℕ) → n ≤ limit → FirstWrong n l i → i < 2 ^ 32
position n l zero h f = omega arith
position n l (suc i) h f =
    let e = right_ends n l i (λ j k. f.before j (omega arith)) in
    let r = (f.before i (omega arith)).inside in
    omega (arith, e, r, most n h)

formed_length : (n : ℕ) (l : List ℕ) → n ≤ limit → WellFormed n l → length l < 2 ^ 32
formed_length n l h f = omega (arith, right_ends n l (length l) f.right, f.ends, most n h)

-- ---- through the checks

below_if : {A : Type 0} (f : A → ℕ) (b : Bool) (r k : ℕ) (x : Answer A) → 0 < r → r ≤ 12 → k < 2 ^ 32 → (b ≡ false → Below f x) → Below f (refuse_if b r k x)
below_if f true r k x z p q s = (z, p, q)
below_if f false r k x z p q s = s refl

below_wrong : {A : Type 0} (f : A → ℕ) (n : ℕ) (l : List ℕ) (r : ℕ) (x : Answer A) → 0 < r → r ≤ 12 → n ≤ limit → (WellFormed n l → Below f x)
    → Below f (refuse_wrong r (checked n l) x)
below_wrong f n l r x z p h s = go (checked n l) refl
  where
    go : (c : Result (Unit {0}) ℕ) → checked n l ≡ c → Below f (refuse_wrong r c x)
    go (Ok u) e = s (tiles_formed n l e)
    go (Err i) e = (z, p, position n l i h (wrong_first n l i e))

below-fitting : (f : ℕ → ℕ) (n space : ℕ) → n ≤ limit → Below length (fitting (shortest f n 0) space)
below-fitting f n space h =
    let k : length (shortest f n 0) < 2 ^ 32 = omega (arith, (shortest-size f n 0).1, most n h) in
    below_if length (ltb space (length (shortest f n 0))) rule.no_room (length (shortest f n 0)) (gives (shortest f n 0)) (omega arith) (omega arith) k (λ e. k)

pub below-written : (x : Outcome) → Below length x → Below itself (written x)
below-written (gives l) s = s
below-written (refuses r k) s = s

-- ---- call by call

pub check_below : (n : ℕ) (l : List ℕ) → Below itself (list_check n l)
unfolding list_check
check_below n l =
    below_if itself (ltb limit n) rule.size 0 _ (omega arith) (omega arith) (omega arith) λ e.
    let h = ltb-false limit n e in
    below_wrong itself n l rule.first_list _ (omega arith) (omega arith) h (formed_length n l h)

colour_below : (n : ℕ) (l : List ℕ) (row column : ℤ) → inside n row column ≡ true → colour_in n l row column < 2 ^ 32
colour_below n l row column e = rw (colour_inside n l row column e) (omega (arith, colour_lt l (code (nat_abs row) (nat_abs column))))

pub lookup_below : (n : ℕ) (l : List ℕ) (row column : ℤ) → Below itself (cell_lookup n l row column)
unfolding cell_lookup
lookup_below n l row column =
    below_if itself (ltb limit n) rule.size 0 _ (omega arith) (omega arith) (omega arith) λ e.
    below_wrong itself n l rule.first_list _ (omega arith) (omega arith) (ltb-false limit n e) λ f.
    below_if itself (not (inside n row column)) rule.outside 0 _ (omega arith) (omega arith) (omega arith) λ i.
    colour_below n l row column (not-false _ i)

pub neighbour-below : (n k level : ℕ) (d : Direction) → Below itself (neighbour n k level d)
unfolding neighbour
neighbour-below n k level d =
    below_if itself (ltb limit n) rule.size 0 _ (omega arith) (omega arith) (omega arith) λ e.
    below_if itself (not (is_block n k level)) rule.block_address 0 _ (omega arith) (omega arith) (omega arith) λ b.
    below_if itself (not (inside n (row_away k level d) (column_away k level d))) rule.outside 0 _ (omega arith) (omega arith) (omega arith) λ i.
    omega (arith, code_lt 16 (nat_abs (row_away k level d)) (nat_abs (column_away k level d)))

pub list_below : (n : ℕ) (cells : List ℕ) (space : ℕ) → Below length (raster_to_list n cells space)
unfolding raster_to_list
list_below n cells space =
    below_if length (ltb limit n) rule.size 0 _ (omega arith) (omega arith) (omega arith) λ e.
    below_if length (not (eqb (length cells) (4 ^ n))) rule.raster_length 0 _ (omega arith) (omega arith) (omega arith) λ z.
    below-fitting (pixel n cells) n space (ltb-false limit n e)

pub raster_below : (n : ℕ) (l : List ℕ) (space : ℕ) → Below length (list_to_raster n l space)
unfolding list_to_raster
raster_below n l space =
    below_if length (ltb limit n) rule.size 0 _ (omega arith) (omega arith) (omega arith) λ e.
    below_if length (not (eqb space (4 ^ n))) rule.raster_length 0 _ (omega arith) (omega arith) (omega arith) λ z.
    below_wrong length n l rule.first_list _ (omega arith) (omega arith) (ltb-false limit n e) λ f.
    omega (arith, raster_length_lem n l, most n (ltb-false limit n e))

pub window_below : (n : ℕ) (a : List ℕ) (w : Window) (space : ℕ) → Below length (windowed n a w space)
unfolding windowed
window_below n a w space =
    below_if length (ltb limit n) rule.size 0 _ (omega arith) (omega arith) (omega arith) λ e.
    below_if length (ltb limit w.size) rule.size 2 _ (omega arith) (omega arith) (omega arith) λ z.
    below_if length (far w.wy) rule.offset 2 _ (omega arith) (omega arith) (omega arith) λ p.
    below_if length (far w.wx) rule.offset 3 _ (omega arith) (omega arith) (omega arith) λ q.
    below_wrong length n a rule.first_list _ (omega arith) (omega arith) (ltb-false limit n e) λ f.
    below-fitting (by_code (window_cell n a w)) w.size space (ltb-false limit w.size z)

pub overlay_below : (o : Operation) (n : ℕ) (a : List ℕ) (m : ℕ) (b : List ℕ) (s : Shift) (f : Frame) (space : ℕ) → Below length (overlaid o n a m b s f space)
unfolding overlaid
overlay_below o n a m b s f space =
    let w = window_of n f in
    below_if length (ltb limit n) rule.size 0 _ (omega arith) (omega arith) (omega arith) λ e.
    below_if length (ltb limit m) rule.size 1 _ (omega arith) (omega arith) (omega arith) λ x.
    below_if length (ltb limit w.size) rule.size 2 _ (omega arith) (omega arith) (omega arith) λ z.
    below_if length (far s.dy) rule.offset 0 _ (omega arith) (omega arith) (omega arith) λ p.
    below_if length (far s.dx) rule.offset 1 _ (omega arith) (omega arith) (omega arith) λ q.
    below_if length (far w.wy) rule.offset 2 _ (omega arith) (omega arith) (omega arith) λ r.
    below_if length (far w.wx) rule.offset 3 _ (omega arith) (omega arith) (omega arith) λ t.
    below_wrong length n a rule.first_list _ (omega arith) (omega arith) (ltb-false limit n e) λ g.
    below_wrong length m b rule.second_list _ (omega arith) (omega arith) (ltb-false limit m x) λ h.
    below-fitting (by_code (overlay_cell o n a m b s w)) w.size space (ltb-false limit w.size z)

-- a shift is told by 0
abbrev pub nought : Shift → ℕ
nought s = 0

-- a reference has three numbers
few : {g : Ground} {k : ℕ} → FirstUnusable g k → k ≤ 2
few (FirstUnusable.north p) = omega arith
few (FirstUnusable.east n p q) = omega arith
few (FirstUnusable.cell n e p q r) = omega arith

cells-below : {dy dx : ℤ} {a : Answer Shift} → InCells dy dx a → Below nought a
cells-below (InCells.row h) = (omega arith, omega arith, omega arith)
cells-below (InCells.column p h) = (omega arith, omega arith, omega arith)
cells-below (InCells.right p h) = omega arith

ground_below : {f g : Ground} {a : Answer Shift} → OnTheGround f g a → Below nought a
ground_below (OnTheGround.first u) = (omega arith, omega arith, omega (arith, few u))
ground_below (OnTheGround.second r u) = (omega arith, omega arith, omega (arith, few u))
ground_below (OnTheGround.sides r s h) = (omega arith, omega arith, omega arith)
ground_below (OnTheGround.rows r s h) = (omega arith, omega arith, omega arith)
ground_below (OnTheGround.columns dy r s p h) = (omega arith, omega arith, omega arith)
ground_below (OnTheGround.whole r s p q i) = cells-below i

pub place_below : (p : Place) → Below nought (placed p)
place_below (Cells dy dx) = cells-below (places (Cells dy dx))
place_below (OnGround f g) = ground_below (places (OnGround f g))

-- ---- the number is read back

pub read_back : (x : Answer ℕ) → Below itself x → decoded (coded x) ≡ x
read_back (gives v) h = rw (lt-ltb v (2 ^ 32) h)
read_back (refuses r k) h =
    let big : 2 ^ 32 ≤ r * 2 ^ 32 + k = omega (arith, h.0) in
    rw (le-ltb (r * 2 ^ 32 + k) (2 ^ 32) big)
    (ap₂ refuses (omega (arith, h.2)) (omega (arith, h.2)))

-- every answer has room
pub ruleset room = (check_below, lookup_below, neighbour-below, below-written, list_below, raster_below, window_below, overlay_below, place_below)
