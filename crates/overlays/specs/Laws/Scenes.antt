-- The painter's scene shows the overlay's cells: what is biased stands for the row and the column.
use Rattle.std.specs.Prelude.{◌≡◌, List, [], ℕ, ◌+◌, ◌≤◌, ◌<◌, ℤ, pos, neg_ℤ, ◌+ℤ◌, ◌-ℤ◌, nat_abs, Result, Ok, Err}
use Rattle.std.proofs.Common.{sym, ap, ◌∙◌, subst, arith, to_z, of_z, SFits}
use Rattle.std.proofs.Math.Path.{ap₂}
use Rattle.std.proofs.Math.IntN.{+ℤ_assoc, +ℤ_comm}
use Rattle.std.specs.Int.{w64}
use Rattle.morton.specs.Code.{row_of, column_of}
use Rattle.tiling.specs.Map.{limit, colour_in}
use Rattle.tiling.specs.Leaf.{colours}
use Rattle.tiling.specs.Laws.Check.{tiles_formed}
use Rattle.refusal.specs.Answer.{gives, refuses}
use Rattle.refusal.specs.Judged.{unless}
use Rattle.refusal.specs.Read.{rule_of, number_of}
use Rattle.refusal.specs.declared.Refusal.{Refusal}
use Rattle.shortest.specs.Shortest.{shortest}
use Rattle.shortest.specs.Outcome.{Outcome, fitting}
use Rattle.shortest.proofs.Only.{same-shortest}
use Rattle.painter.specs.Laws.Blocks.{coloured}
use Rattle.tiling.specs.WellFormed.{WellFormed}
use Rattle.tiling.specs.Laws.Signed.{back, small_fits, abs_sum, abs_neg}
use Rattle.probe.specs.Biased.{reach, biased, cell_about}
use Rattle.probe.specs.Laws.Biased.{near, near_step, colour_biased, biased_step, biased-lt}
use Rattle.place.specs.Placing.{farthest_offset}
use Rattle.place.specs.declared.Shift.{Shift}
use Rattle.painter.specs.Operation.{combine}
use Rattle.painter.specs.Scene.{Scene, cell_of, picture}
use Rattle.painter.specs.Painting.{Paints}
use Rattle.painter.specs.declared.operations.Operation.{Operation}
use Rattle.overlays.specs.Overlay.{window_of, overlay_cell, by_code, judged, overlaid}
use Rattle.overlays.specs.declared.Frame.{Frame}
use Rattle.overlays.specs.Scenes.{scene_of}
use Rattle.overlays.specs.Laws.Checks.{Near, Right, judged_right, fine_passes}
use Rattle.overlays.specs.declared.Window.{Window}

-- ---- numbers that are near, as the code holds them
pub near_back : (z : ℤ) → nat_abs z ≤ farthest_offset → to_z w64 (of_z w64 z) ≡ z
near_back z h = back (small_fits z (omega arith))

pub apart : (w d : ℤ) → nat_abs w ≤ farthest_offset → nat_abs d ≤ farthest_offset → nat_abs (w -ℤ d) ≤ reach
apart w d hw hd = omega (arith, abs_sum w (neg_ℤ d), abs_neg d)

pub apart_fits : (w d : ℤ) → nat_abs w ≤ farthest_offset → nat_abs d ≤ farthest_offset → SFits w64 (w -ℤ d)
apart_fits w d hw hd = small_fits (w -ℤ d) (omega (arith, apart w d hw hd))

pub apart_held : (w d : ℤ) → nat_abs w ≤ farthest_offset → nat_abs d ≤ farthest_offset → to_z w64 (of_z w64 (to_z w64 (of_z w64 w) -ℤ to_z w64 (of_z w64 d))) ≡ w -ℤ d
apart_held w d hw hd = ap₂ (λ (a b : ℤ). to_z w64 (of_z w64 (a -ℤ b))) (near_back w hw) (near_back d hd) ∙ back (apart_fits w d hw hd)

pub scene_is : (o : Operation) (n m : ℕ) (s : Shift) (w : Window) (p q r t : ℕ) → p ≡ biased w.wy → q ≡ biased w.wx → r ≡ biased (w.wy -ℤ s.dy) → t ≡ biased (w.wx -ℤ s.dx)
    → ◌≡◌ {A = Scene} (record { operation = o; n = n; m = m; ay = p; ax = q; by = r; bx = t }) (scene_of o n m s w)
scene_is o n m s w p q r t e f g h = rw (e, f, g, h)

-- ---- the cells
moved : (w d : ℤ) (y : ℕ) → w -ℤ d +ℤ pos y ≡ w +ℤ pos y -ℤ d
moved w d y = +ℤ_assoc w (neg_ℤ d) (pos y) ∙ ap (λ (z : ℤ). w +ℤ z) (+ℤ_comm (neg_ℤ d) (pos y)) ∙ sym (+ℤ_assoc w (pos y) (neg_ℤ d))

about : (n : ℕ) (l : List ℕ) (r c : ℤ) (y x : ℕ) → nat_abs r ≤ reach → nat_abs c ≤ reach → cell_about n l (biased r + y) (biased c + x) ≡ colour_in n l (r +ℤ pos y) (c +ℤ pos x)
about n l r c y x hr hc =
    ap₂ (cell_about n l) (sym (biased_step r y (near r hr))) (sym (biased_step c x (near c hc)))
    ∙ colour_biased n l (r +ℤ pos y) (c +ℤ pos x) (near_step r y (near r hr)) (near_step c x (near c hc))

module _ (o : Operation) (n : ℕ) (a : List ℕ) (m : ℕ) (b : List ℕ) (s : Shift) (w : Window) (h : Near s.dy s.dx w.wy w.wx) where
  cells : (y x : ℕ) → cell_of (scene_of o n m s w) a b y x ≡ overlay_cell o n a m b s w y x
  unfolding cell_of
  cells y x =
      ap₂ (combine o)
      (about n a w.wy w.wx y x (omega (arith, h.wy_near)) (omega (arith, h.wx_near)))
      (about m b (w.wy -ℤ s.dy) (w.wx -ℤ s.dx) y x (apart w.wy s.dy h.wy_near h.dy_near) (apart w.wx s.dx h.wx_near h.dx_near)
      ∙ ap₂ (colour_in m b) (moved w.wy s.dy y) (moved w.wx s.dx x))

  pub pictures : (k : ℕ) → picture (scene_of o n m s w) a b k ≡ by_code (overlay_cell o n a m b s w) k
  unfolding picture
  pictures k = cells (row_of k) (column_of k)

  pub paints : n ≤ limit → m ≤ limit → w.size ≤ limit → WellFormed n a → WellFormed m b → Paints (scene_of o n m s w) a b w.size
  paints hn hm hw fa fb = record {
    scened = record {
      first-size = omega arith;
      second-size = omega arith;
      first_formed = fa;
      second_formed = fb;
      ay_lt = biased-lt w.wy (omega (arith, h.wy_near));
      ax_lt = biased-lt w.wx (omega (arith, h.wx_near));
      by_lt = biased-lt (w.wy -ℤ s.dy) (apart w.wy s.dy h.wy_near h.dy_near);
      bx_lt = biased-lt (w.wx -ℤ s.dx) (apart w.wx s.dx h.wx_near h.dx_near);
    };
    size = omega arith;
  }

  -- one picture has one shortest list
  pub same_list : w.size ≤ limit → shortest (picture (scene_of o n m s w) a b) w.size 0 ≡ shortest (by_code (overlay_cell o n a m b s w)) w.size 0
  same_list low =
      same-shortest (by_code (overlay_cell o n a m b s w)) w.size (omega arith)
      (λ j. subst (λ (c : ℕ). c < colours) (pictures j) (coloured (scene_of o n m s w) a b j))
      (picture (scene_of o n m s w) a b) (coloured (scene_of o n m s w) a b) (λ j l. pictures j)

-- ---- what the whole call comes to
module _ {A : Type 0} (o : Operation) (n : ℕ) (a : List ℕ) (m : ℕ) (b : List ℕ) (s : Shift) (w : Window) (v : Result A Refusal) (e : (x : Outcome) → unless v x ≡ judged n a m b s w x) where
  -- a refusal
  pub judged_bad : (r : Refusal) → v ≡ Err r → (x : Outcome) → judged n a m b s w x ≡ refuses (rule_of r) (number_of r)
  judged_bad r f x = sym (e x) ∙ ap (λ (z : Result A Refusal). unless z x) f

  -- all is right
  module _ (u : A) (f : v ≡ Ok u) where
    pub judged_fine : (x : Outcome) → judged n a m b s w x ≡ x
    judged_fine x = sym (e x) ∙ fine_passes v u f x

    pub right : Right n a m b s w
    right = judged_right n a m b s w (sym (judged_fine (gives [])))

    pub all_paints : Paints (scene_of o n m s w) a b w.size
    all_paints = let r = right in paints o n a m b s w r.near r.first-size r.second-size r.window_size (tiles_formed n a r.first_tiles) (tiles_formed m b r.second_tiles)

    pub drawn : (space : ℕ) → judged n a m b s w (fitting (shortest (by_code (overlay_cell o n a m b s w)) w.size 0) space) ≡ fitting (shortest (picture (scene_of o n m s w) a b) w.size 0) space
    drawn space = judged_fine _ ∙ ap (λ (l : List ℕ). fitting l space) (sym (same_list o n a m b s w right.near right.window_size))

pub overlaid_by : (o : Operation) (n : ℕ) (a : List ℕ) (m : ℕ) (b : List ℕ) (s : Shift) (f : Frame) (space : ℕ) (w : Window) → w ≡ window_of n f
    → overlaid o n a m b s f space ≡ judged n a m b s w (fitting (shortest (by_code (overlay_cell o n a m b s w)) w.size 0) space)
unfolding overlaid
overlaid_by o n a m b s f space w e = rw e
