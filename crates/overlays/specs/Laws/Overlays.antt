-- Overlay and window answer what is allowed, and nothing else.
use Rattle.std.specs.Prelude.{◌≡◌, refl, Bool, true, false, List, ℕ, ◌^◌, ◌<◌, ◌≤◌, ltb, pos, length, Result, Ok, Err}
use Rattle.std.proofs.Common.{sym, ap, ap₂, ◌∙◌, subst, arith}
use borrow.Author.Tests.{lt-ltb, le-ltb, ltb-true, ltb-false}
use Rattle.refusal.specs.Rules as rule
use Rattle.refusal.specs.Answer.{gives, refuses}
use Rattle.tiling.specs.Leaf.{colours}
use Rattle.morton.specs.Laws.Cell.{cell_of-code}
use Rattle.tiling.specs.Map.{limit, colour_in}
use Rattle.tiling.specs.Check.{checked}
use Rattle.tiling.specs.WellFormed.{WellFormed}
use Rattle.tiling.specs.Laws.Check.{tiles_formed, formed_tiles}
use Rattle.tiling.proofs.FirstWrong.{wrong_first, first_wrong}
use Rattle.shortest.specs.Shortest.{shortest}
use Rattle.shortest.specs.Demand.{IsShortest}
use Rattle.shortest.proofs.Demand.{shortest_is}
use Rattle.shortest.specs.Outcome.{Outcome, fitting}
use Rattle.shortest.specs.Laws.Outcome.{fitting_gives, fitting_refuses}
use Rattle.shortest.proofs.Only.{only_shortest}
use Rattle.place.specs.Placing.{far}
use Rattle.place.specs.declared.Shift.{Shift}
use Rattle.painter.specs.declared.operations.Operation.{Operation}
use Rattle.painter.specs.Laws.Table.{combine-lt}
use Rattle.shortest.specs.Laws.Shown.{shown_at, cell_bits}
use Rattle.overlays.specs.Overlay.{window_of, window_cell, overlay_cell, by_code, sizes, offsets, lists, judged, overlaid, windowed}
use Rattle.overlays.specs.Allowed.{Sizes, Nearby, Overlays, Windows}
use Rattle.overlays.specs.Laws.Checks as checks
use Rattle.overlays.specs.Laws.Windows.{colour_in-lt, window_coloured}
use Rattle.overlays.specs.declared.Window.{Window}
use Rattle.overlays.specs.declared.Frame.{Frame}

-- ---- a picture's list, and its end
module _ (f : ℕ → ℕ) (coloured : (k : ℕ) → f k < colours) (w space : ℕ) (low : w ≤ limit) where
  fits : (l : List ℕ) → IsShortest f w l → length l ≤ space → gives l ≡ fitting (shortest f w 0) space
  fits l i h =
      let e : l ≡ shortest f w 0 = only_shortest f w (omega arith) coloured l i in
      ap gives e ∙ sym (fitting_gives (shortest f w 0) space (omega (arith, ap length e)))

  too_long : (l : List ℕ) → IsShortest f w l → space < length l → refuses rule.no_room (length l) ≡ fitting (shortest f w 0) space
  too_long l i h =
      let e : l ≡ shortest f w 0 = only_shortest f w (omega arith) coloured l i in
      ap (λ (k : List ℕ). refuses rule.no_room (length k)) e ∙ sym (fitting_refuses (shortest f w 0) space (omega (arith, ap length e)))

  is : IsShortest f w (shortest f w 0)
  is = shortest_is f w (omega arith) coloured

-- ---- two maps
module _ (o : Operation) (n : ℕ) (a : List ℕ) (m : ℕ) (b : List ℕ) (s : Shift) (w : Window) (space : ℕ) where
  abbrev cells : ℕ → ℕ
  cells = by_code (overlay_cell o n a m b s w)

  coloured : (k : ℕ) → cells k < colours
  coloured k = combine-lt o _ _ (colour_in-lt n a _ _) (colour_in-lt m b _ _)

  abbrev end : Outcome
  end = fitting (shortest cells w.size 0) space

  past_sizes : Sizes n m w.size → (x : Outcome) → x ≡ sizes n m w.size x
  past_sizes z x = checks.sizes_fine n m w.size x z.first z.second z.window

  past_offsets : Nearby s.dy s.dx w.wy w.wx → (x : Outcome) → x ≡ offsets s.dy s.dx w.wy w.wx x
  past_offsets z x = checks.offsets_fine s.dy s.dx w.wy w.wx x z.dy_near z.dx_near z.wy_near z.wx_near

  past_lists : WellFormed n a → WellFormed m b → (x : Outcome) → x ≡ lists n a m b x
  past_lists f g x = checks.lists_fine n a m b x (formed_tiles n a f) (formed_tiles m b g)

  pub from_overlays : (x : Outcome) → Overlays o n a m b s w space x → judged n a m b s w end ≡ x
  from_overlays x (Overlays.first-size h) = sym (checks.size-first n m w.size _ h)
  from_overlays x (Overlays.second-size p h) = sym (checks.size-second n m w.size _ p h)
  from_overlays x (Overlays.window_size p q h) = sym (checks.size_window n m w.size _ p q h)
  from_overlays x (Overlays.dy_far z h) = sym (checks.far_dy s.dy s.dx w.wy w.wx _ h ∙ past_sizes z _)
  from_overlays x (Overlays.dx_far z p h) = sym (checks.far_dx s.dy s.dx w.wy w.wx _ p h ∙ past_sizes z _)
  from_overlays x (Overlays.wy_far z p q h) = sym (checks.far_wy s.dy s.dx w.wy w.wx _ p q h ∙ past_sizes z _)
  from_overlays x (Overlays.wx_far z p q r h) = sym (checks.far_wx s.dy s.dx w.wy w.wx _ p q r h ∙ past_sizes z _)
  from_overlays x (Overlays.first_list {i = i} z y h) = sym (checks.first_wrong n a m b _ i (first_wrong n a i h) ∙ past_offsets y _ ∙ past_sizes z _)
  from_overlays x (Overlays.second_list {i = i} z y f h) =
      sym (checks.second_wrong n a m b _ i (formed_tiles n a f) (first_wrong m b i h) ∙ past_offsets y _ ∙ past_sizes z _)
  from_overlays x (Overlays.room {l = l} z y f g i h) =
      sym (too_long cells coloured w.size space z.window l i h ∙ past_lists f g _ ∙ past_offsets y _ ∙ past_sizes z _)
  from_overlays x (Overlays.right {l = l} z y f g i h) =
      sym (fits cells coloured w.size space z.window l i h ∙ past_lists f g _ ∙ past_offsets y _ ∙ past_sizes z _)

  -- what is allowed of an answer is allowed of the definition's
  told : {x : Outcome} → Overlays o n a m b s w space x → Overlays o n a m b s w space (judged n a m b s w end)
  told {x} z = subst (Overlays o n a m b s w space) (sym (from_overlays x z)) z

  by_room : Sizes n m w.size → Nearby s.dy s.dx w.wy w.wx → WellFormed n a → WellFormed m b → Overlays o n a m b s w space (judged n a m b s w end)
  by_room z y f g = go (ltb space (length (shortest cells w.size 0))) refl
    where
      go : (t : Bool) → ltb space (length (shortest cells w.size 0)) ≡ t → Overlays o n a m b s w space (judged n a m b s w end)
      go true e = told (Overlays.room z y f g (is cells coloured w.size space z.window) (ltb-true _ _ e))
      go false e = told (Overlays.right z y f g (is cells coloured w.size space z.window) (ltb-false _ _ e))

  by_lists : Sizes n m w.size → Nearby s.dy s.dx w.wy w.wx → Overlays o n a m b s w space (judged n a m b s w end)
  by_lists z y = go (checked n a) refl (checked m b) refl
    where
      go : (p : Result (Unit {0}) ℕ) → checked n a ≡ p → (q : Result (Unit {0}) ℕ) → checked m b ≡ q → Overlays o n a m b s w space (judged n a m b s w end)
      go (Err i) e q f = told (Overlays.first_list z y (wrong_first n a i e))
      go (Ok u) e (Err i) f = told (Overlays.second_list z y (tiles_formed n a e) (wrong_first m b i f))
      go (Ok u) e (Ok v) f = by_room z y (tiles_formed n a e) (tiles_formed m b f)

  by_offsets : Sizes n m w.size → Overlays o n a m b s w space (judged n a m b s w end)
  by_offsets z = go (far s.dy) refl (far s.dx) refl (far w.wy) refl (far w.wx) refl
    where
      go : (p : Bool) → far s.dy ≡ p → (q : Bool) → far s.dx ≡ q → (r : Bool) → far w.wy ≡ r → (t : Bool) → far w.wx ≡ t
          → Overlays o n a m b s w space (judged n a m b s w end)
      go true e q f r g t h = told (Overlays.dy_far z e)
      go false e true f r g t h = told (Overlays.dx_far z e f)
      go false e false f true g t h = told (Overlays.wy_far z e f g)
      go false e false f false g true h = told (Overlays.wx_far z e f g h)
      go false e false f false g false h = by_lists z (record { dy_near = e; dx_near = f; wy_near = g; wx_near = h })

  pub overlays : Overlays o n a m b s w space (judged n a m b s w end)
  overlays = go (ltb limit n) refl (ltb limit m) refl (ltb limit w.size) refl
    where
      go : (p : Bool) → ltb limit n ≡ p → (q : Bool) → ltb limit m ≡ q → (r : Bool) → ltb limit w.size ≡ r → Overlays o n a m b s w space (judged n a m b s w end)
      go true e q f r g = told (Overlays.first-size (ltb-true _ _ e))
      go false e true f r g = told (Overlays.second-size (ltb-false _ _ e) (ltb-true _ _ f))
      go false e false f true g = told (Overlays.window_size (ltb-false _ _ e) (ltb-false _ _ f) (ltb-true _ _ g))
      go false e false f false g = by_offsets (record { first = ltb-false _ _ e; second = ltb-false _ _ f; window = ltb-false _ _ g })

pub overlaid_allowed : (o : Operation) (n : ℕ) (a : List ℕ) (m : ℕ) (b : List ℕ) (s : Shift) (f : Frame) (space : ℕ)
    → Overlays o n a m b s (window_of n f) space (overlaid o n a m b s f space)
unfolding overlaid
overlaid_allowed o n a m b s f space = overlays o n a m b s (window_of n f) space

pub allowed_overlaid : (o : Operation) (n : ℕ) (a : List ℕ) (m : ℕ) (b : List ℕ) (s : Shift) (f : Frame) (space : ℕ) (x : Outcome)
    → Overlays o n a m b s (window_of n f) space x → overlaid o n a m b s f space ≡ x
unfolding overlaid
allowed_overlaid o n a m b s f space x z = from_overlays o n a m b s (window_of n f) space x z

-- ---- one window
module _ (n : ℕ) (a : List ℕ) (w : Window) (space : ℕ) where
  pub from_windows : (x : Outcome) → Windows n a w space x → windowed n a w space ≡ x
  unfolding windowed
  from_windows x (Windows.size h) = rw (lt-ltb limit n h)
  from_windows x (Windows.window_size p h) = rw (le-ltb limit n p, lt-ltb limit w.size h)
  from_windows x (Windows.wy_far p q h) = rw (le-ltb limit n p, le-ltb limit w.size q, h)
  from_windows x (Windows.wx_far p q r h) = rw (le-ltb limit n p, le-ltb limit w.size q, r, h)
  from_windows x (Windows.list {i = i} p q r t h) = rw (le-ltb limit n p, le-ltb limit w.size q, r, t, first_wrong n a i h)
  from_windows x (Windows.room {l = l} p q r t f i h) =
      rw (le-ltb limit n p, le-ltb limit w.size q, r, t, formed_tiles n a f) (sym (too_long (by_code (window_cell n a w)) (window_coloured n a w) w.size space q l i h))
  from_windows x (Windows.right {l = l} p q r t f i h) =
      rw (le-ltb limit n p, le-ltb limit w.size q, r, t, formed_tiles n a f) (sym (fits (by_code (window_cell n a w)) (window_coloured n a w) w.size space q l i h))

  seen : {x : Outcome} → Windows n a w space x → Windows n a w space (windowed n a w space)
  seen {x} z = subst (Windows n a w space) (sym (from_windows x z)) z

  window_room : n ≤ limit → w.size ≤ limit → far w.wy ≡ false → far w.wx ≡ false → WellFormed n a → Windows n a w space (windowed n a w space)
  window_room p q r t f = go (ltb space (length (shortest (by_code (window_cell n a w)) w.size 0))) refl
    where
      go : (u : Bool) → ltb space (length (shortest (by_code (window_cell n a w)) w.size 0)) ≡ u → Windows n a w space (windowed n a w space)
      go true e = seen (Windows.room p q r t f (is (by_code (window_cell n a w)) (window_coloured n a w) w.size space q) (ltb-true _ _ e))
      go false e = seen (Windows.right p q r t f (is (by_code (window_cell n a w)) (window_coloured n a w) w.size space q) (ltb-false _ _ e))

  pub windows : Windows n a w space (windowed n a w space)
  windows = go (ltb limit n) refl (ltb limit w.size) refl (far w.wy) refl (far w.wx) refl (checked n a) refl
    where
      go : (p : Bool) → ltb limit n ≡ p → (q : Bool) → ltb limit w.size ≡ q → (r : Bool) → far w.wy ≡ r → (t : Bool) → far w.wx ≡ t
          → (c : Result (Unit {0}) ℕ) → checked n a ≡ c → Windows n a w space (windowed n a w space)
      go true e q f r g t h c k = seen (Windows.size (ltb-true _ _ e))
      go false e true f r g t h c k = seen (Windows.window_size (ltb-false _ _ e) (ltb-true _ _ f))
      go false e false f true g t h c k = seen (Windows.wy_far (ltb-false _ _ e) (ltb-false _ _ f) g)
      go false e false f false g true h c k = seen (Windows.wx_far (ltb-false _ _ e) (ltb-false _ _ f) g h)
      go false e false f false g false h (Err i) k = seen (Windows.list (ltb-false _ _ e) (ltb-false _ _ f) g h (wrong_first n a i k))
      go false e false f false g false h (Ok u) k = window_room (ltb-false _ _ e) (ltb-false _ _ f) g h (tiles_formed n a k)

-- ---- the cells of a list that shows a picture
pub shown : (g : ℕ → ℕ → ℕ) (n : ℕ) (l : List ℕ) → n ≤ limit → IsShortest (by_code g) n l → (y x : ℕ) → y < 2 ^ n → x < 2 ^ n → colour_in n l (pos y) (pos x) ≡ g y x
shown g n l low i y x hy hx =
    let c = cell_of-code y x (cell_bits n y low hy) (cell_bits n x low hx) in
    shown_at (by_code g) n l low i y x hy hx ∙ ap₂ g c.0 c.1
