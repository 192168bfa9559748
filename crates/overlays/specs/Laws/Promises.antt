-- What follows from an outcome's being allowed: of no room, of the list that is given.
use Rattle.std.specs.Prelude.{◌≡◌, refl, List, ℕ, ◌≤◌}
use Rattle.std.proofs.Common.{subst, arith}
use Rattle.refusal.specs.Rules as rule
use Rattle.refusal.specs.Answer.{gives, refuses}
use Rattle.shortest.specs.Outcome.{Outcome}
use Rattle.place.specs.declared.Shift.{Shift}
use Rattle.painter.specs.declared.operations.Operation.{Operation}
use Rattle.tiling.specs.Map.{limit}
use Rattle.shortest.specs.Demand.{IsShortest, NoRoom}
use Rattle.shortest.specs.Laws.Promises.{no_room_lem, Told}
use Rattle.overlays.specs.Overlay.{window_of, window_cell, overlay_cell, by_code, overlaid, windowed}
use Rattle.overlays.specs.Allowed.{Overlays, Windows}
use Rattle.overlays.specs.Laws.Overlays.{overlaid_allowed, windows}
use Rattle.overlays.specs.declared.Window.{Window}
use Rattle.overlays.specs.declared.Frame.{Frame}

overlay_told : (o : Operation) (n : ℕ) (a : List ℕ) (m : ℕ) (b : List ℕ) (s : Shift) (w : Window) (space : ℕ) (x : Outcome)
    → Overlays o n a m b s w space x → Told (by_code (overlay_cell o n a m b s w)) w.size space x
overlay_told o n a m b s w space x (Overlays.first-size h) = λ e. absurd (omega arith)
overlay_told o n a m b s w space x (Overlays.second-size p h) = λ e. absurd (omega arith)
overlay_told o n a m b s w space x (Overlays.window_size p q h) = λ e. absurd (omega arith)
overlay_told o n a m b s w space x (Overlays.dy_far z h) = λ e. absurd (omega arith)
overlay_told o n a m b s w space x (Overlays.dx_far z p h) = λ e. absurd (omega arith)
overlay_told o n a m b s w space x (Overlays.wy_far z p q h) = λ e. absurd (omega arith)
overlay_told o n a m b s w space x (Overlays.wx_far z p q r h) = λ e. absurd (omega arith)
overlay_told o n a m b s w space x (Overlays.first_list z y h) = λ e. absurd (omega arith)
overlay_told o n a m b s w space x (Overlays.second_list z y f h) = λ e. absurd (omega arith)
overlay_told o n a m b s w space x (Overlays.room {l = l} z y f g i h) = λ e. no_room_lem (by_code (overlay_cell o n a m b s w)) w.size space l i h
overlay_told o n a m b s w space x (Overlays.right z y f g i h) = (z.window, i)

window_told : (n : ℕ) (a : List ℕ) (w : Window) (space : ℕ) (x : Outcome) → Windows n a w space x → Told (by_code (window_cell n a w)) w.size space x
window_told n a w space x (Windows.size h) = λ e. absurd (omega arith)
window_told n a w space x (Windows.window_size p h) = λ e. absurd (omega arith)
window_told n a w space x (Windows.wy_far p q h) = λ e. absurd (omega arith)
window_told n a w space x (Windows.wx_far p q r h) = λ e. absurd (omega arith)
window_told n a w space x (Windows.list p q r t h) = λ e. absurd (omega arith)
window_told n a w space x (Windows.room {l = l} p q r t f i h) = λ e. no_room_lem (by_code (window_cell n a w)) w.size space l i h
window_told n a w space x (Windows.right p q r t f i h) = (q, i)

pub overlay_refused : (o : Operation) (n : ℕ) (a : List ℕ) (m : ℕ) (b : List ℕ) (s : Shift) (f : Frame) (space k : ℕ)
    → overlaid o n a m b s f space ≡ refuses rule.no_room k → NoRoom (by_code (overlay_cell o n a m b s (window_of n f))) (window_of n f).size space k
overlay_refused o n a m b s f space k e =
    subst (Told (by_code (overlay_cell o n a m b s (window_of n f))) (window_of n f).size space) e
    (overlay_told o n a m b s (window_of n f) space _ (overlaid_allowed o n a m b s f space)) refl

pub window_refused : (n : ℕ) (a : List ℕ) (w : Window) (space k : ℕ) → windowed n a w space ≡ refuses rule.no_room k → NoRoom (by_code (window_cell n a w)) w.size space k
window_refused n a w space k e = subst (Told (by_code (window_cell n a w)) w.size space) e (window_told n a w space _ (windows n a w space)) refl

pub overlay_list : (o : Operation) (n : ℕ) (a : List ℕ) (m : ℕ) (b : List ℕ) (s : Shift) (f : Frame) (space : ℕ) (l : List ℕ)
    → overlaid o n a m b s f space ≡ gives l → ((window_of n f).size ≤ limit) × IsShortest (by_code (overlay_cell o n a m b s (window_of n f))) (window_of n f).size l
overlay_list o n a m b s f space l e =
    subst (Told (by_code (overlay_cell o n a m b s (window_of n f))) (window_of n f).size space) e
    (overlay_told o n a m b s (window_of n f) space _ (overlaid_allowed o n a m b s f space))

pub window_list : (n : ℕ) (a : List ℕ) (w : Window) (space : ℕ) (l : List ℕ) → windowed n a w space ≡ gives l → (w.size ≤ limit) × IsShortest (by_code (window_cell n a w)) w.size l
window_list n a w space l e = subst (Told (by_code (window_cell n a w)) w.size space) e (window_told n a w space _ (windows n a w space))
