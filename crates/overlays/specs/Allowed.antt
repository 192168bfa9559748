-- Which answer each call may give, and when: one line for each refusal of the paper's table that the call may make, in the paper's
-- order, and one for what it gives. Each line asks that no earlier check refuses.
use Rattle.std.specs.Prelude.{◌≡◌, true, false, List, ℕ, ◌<◌, ◌≤◌, ℤ, length}
use Rattle.refusal.specs.Rules as rule
use Rattle.refusal.specs.Answer.{gives, refuses}
use Rattle.tiling.specs.Map.{limit}
use Rattle.tiling.specs.WellFormed.{WellFormed, FirstWrong}
use Rattle.shortest.specs.Demand.{IsShortest}
use Rattle.shortest.specs.Outcome.{Outcome}
use Rattle.place.specs.Placing.{far}
use Rattle.place.specs.declared.Shift.{Shift}
use Rattle.painter.specs.declared.operations.Operation.{Operation}
use Rattle.overlays.specs.Overlay.{window_cell, overlay_cell, by_code}
use Rattle.overlays.specs.declared.Window.{Window}

-- the sizes of the maps and of the window are at most the limit
pub record Sizes (n m w : ℕ) : Type 0 where
  pub first : n ≤ limit
  pub second : m ≤ limit
  pub window : w ≤ limit

-- the offset and the window's origin are not too far
pub record Nearby (dy dx wy wx : ℤ) : Type 0 where
  pub dy_near : far dy ≡ false
  pub dx_near : far dx ≡ false
  pub wy_near : far wy ≡ false
  pub wx_near : far wx ≡ false

-- two maps: 1, 2, 3, 4, 5
pub data Overlays (o : Operation) (n : ℕ) (a : List ℕ) (m : ℕ) (b : List ℕ) (s : Shift) (w : Window) (space : ℕ) : Outcome → Type 0 where
  first-size : limit < n → Overlays o n a m b s w space (refuses rule.size 0)
  second-size : n ≤ limit → limit < m → Overlays o n a m b s w space (refuses rule.size 1)
  window_size : n ≤ limit → m ≤ limit → limit < w.size → Overlays o n a m b s w space (refuses rule.size 2)
  dy_far : Sizes n m w.size → far s.dy ≡ true → Overlays o n a m b s w space (refuses rule.offset 0)
  dx_far : Sizes n m w.size → far s.dy ≡ false → far s.dx ≡ true → Overlays o n a m b s w space (refuses rule.offset 1)
  wy_far : Sizes n m w.size → far s.dy ≡ false → far s.dx ≡ false → far w.wy ≡ true → Overlays o n a m b s w space (refuses rule.offset 2)
  wx_far : Sizes n m w.size → far s.dy ≡ false → far s.dx ≡ false → far w.wy ≡ false → far w.wx ≡ true
      → Overlays o n a m b s w space (refuses rule.offset 3)
  first_list : {i : ℕ} → Sizes n m w.size → Nearby s.dy s.dx w.wy w.wx → FirstWrong n a i → Overlays o n a m b s w space (refuses rule.first_list i)
  second_list : {i : ℕ} → Sizes n m w.size → Nearby s.dy s.dx w.wy w.wx → WellFormed n a → FirstWrong m b i
      → Overlays o n a m b s w space (refuses rule.second_list i)
  room : {l : List ℕ} → Sizes n m w.size → Nearby s.dy s.dx w.wy w.wx → WellFormed n a → WellFormed m b
      → IsShortest (by_code (overlay_cell o n a m b s w)) w.size l → space < length l → Overlays o n a m b s w space (refuses rule.no_room (length l))
  right : {l : List ℕ} → Sizes n m w.size → Nearby s.dy s.dx w.wy w.wx → WellFormed n a → WellFormed m b
      → IsShortest (by_code (overlay_cell o n a m b s w)) w.size l → length l ≤ space → Overlays o n a m b s w space (gives l)

-- one window: 1, 2, 3, 5
pub data Windows (n : ℕ) (a : List ℕ) (w : Window) (space : ℕ) : Outcome → Type 0 where
  size : limit < n → Windows n a w space (refuses rule.size 0)
  window_size : n ≤ limit → limit < w.size → Windows n a w space (refuses rule.size 2)
  wy_far : n ≤ limit → w.size ≤ limit → far w.wy ≡ true → Windows n a w space (refuses rule.offset 2)
  wx_far : n ≤ limit → w.size ≤ limit → far w.wy ≡ false → far w.wx ≡ true → Windows n a w space (refuses rule.offset 3)
  list : {i : ℕ} → n ≤ limit → w.size ≤ limit → far w.wy ≡ false → far w.wx ≡ false → FirstWrong n a i → Windows n a w space (refuses rule.first_list i)
  room : {l : List ℕ} → n ≤ limit → w.size ≤ limit → far w.wy ≡ false → far w.wx ≡ false → WellFormed n a
      → IsShortest (by_code (window_cell n a w)) w.size l → space < length l → Windows n a w space (refuses rule.no_room (length l))
  right : {l : List ℕ} → n ≤ limit → w.size ≤ limit → far w.wy ≡ false → far w.wx ≡ false → WellFormed n a
      → IsShortest (by_code (window_cell n a w)) w.size l → length l ≤ space → Windows n a w space (gives l)
