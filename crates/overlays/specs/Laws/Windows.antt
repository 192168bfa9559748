-- A window is a union with a map of one WHITE cell: it shows the first map as it is, and refuses nothing more.
use Rattle.std.specs.Prelude.{◌≡◌, Bool, cond, List, [], ◌∷◌, ℕ, ◌<◌, ◌≤◌, eqb, ℤ, pos, nat_abs, ◌+ℤ◌}
use Rattle.std.proofs.Math.Path.{refl}
use Rattle.std.proofs.Common.{sym, ap, ◌∙◌, arith, eqb-true, ltb-false}
use Rattle.std.proofs.Math.Bool.{true, false}
use Rattle.std.proofs.Math.Dec.{ltb}
use Rattle.morton.specs.Code.{code, row_of, column_of}
use Rattle.tiling.specs.Leaf.{colours, colour_of, end_of, white}
use Rattle.tiling.specs.Map.{limit, beyond, inside, colour_at, colour_in}
use Rattle.tiling.specs.Check.{checked_from}
use Rattle.tiling.specs.Laws.Colour.{colour_lt}
use Rattle.shortest.specs.Shortest.{shortest}
use Rattle.shortest.proofs.Only.{same-shortest}
use Rattle.place.specs.declared.Shift.{Shift}
use Rattle.painter.specs.Operation.{combine}
use Rattle.painter.specs.Laws.Table.{either_lt}
use Rattle.painter.specs.declared.operations.Operation.TheVariants.{Union}
use Rattle.overlays.specs.Overlay.{window_cell, overlay_cell, by_code, overlaid, windowed}
use Rattle.overlays.specs.declared.Window.{Window}
use Rattle.overlays.specs.declared.Frame.TheVariants.{At}

-- a map of one WHITE cell, laid where the first map begins
abbrev pub blank : List ℕ
blank = 0 ∷ []

abbrev pub nowhere : Shift
nowhere = record { dy = pos 0; dx = pos 0 }

blank-white : (r c : ℤ) → colour_in 0 blank r c ≡ 0
unfolding colour_in colour_at
blank-white r c = go (inside 0 r c) (ltb (code (nat_abs r) (nat_abs c)) (end_of 0))
  where
    go : (p q : Bool) → cond p (cond q (colour_of 0) white) beyond ≡ 0
    go true true = refl
    go true false = refl
    go false q = refl

union_blank : (a : ℕ) → combine Union a 0 ≡ a
union_blank a = go (eqb a 0) refl
  where
    go : (t : Bool) → eqb a 0 ≡ t → cond t 0 a ≡ a
    go true e = sym (eqb-true a 0 e)
    go false e = refl

pub colour_in-lt : (n : ℕ) (l : List ℕ) (r c : ℤ) → colour_in n l r c < colours
unfolding colour_in
colour_in-lt n l r c =
    either_lt (inside n r c) (colour_at l (code (nat_abs r) (nat_abs c))) beyond colours (colour_lt l (code (nat_abs r) (nat_abs c))) (omega arith)

module _ (n : ℕ) (a : List ℕ) (w : Window) where
  same_cell : (y x : ℕ) → overlay_cell Union n a 0 blank nowhere w y x ≡ window_cell n a w y x
  same_cell y x = ap (combine Union (window_cell n a w y x)) (blank-white _ _) ∙ union_blank (window_cell n a w y x)

  pub window_coloured : (k : ℕ) → by_code (window_cell n a w) k < colours
  window_coloured k = colour_in-lt n a (w.wy +ℤ pos (row_of k)) (w.wx +ℤ pos (column_of k))

  same_list : w.size ≤ limit → shortest (by_code (overlay_cell Union n a 0 blank nowhere w)) w.size 0 ≡ shortest (by_code (window_cell n a w)) w.size 0
  same_list h =
      same-shortest (by_code (window_cell n a w)) w.size (omega arith) window_coloured (by_code (overlay_cell Union n a 0 blank nowhere w))
      (λ k. rw (same_cell (row_of k) (column_of k)) (window_coloured k)) (λ k l. same_cell (row_of k) (column_of k))

  pub as_union : (space : ℕ) → overlaid Union n a 0 blank nowhere (At w) space ≡ windowed n a w space
  unfolding overlaid windowed checked_from
  as_union space = go (ltb limit w.size) refl
    where
      go : (t : Bool) → ltb limit w.size ≡ t → overlaid Union n a 0 blank nowhere (At w) space ≡ windowed n a w space
      go true e = rw e
      go false e = rw (e, same_list (ltb-false _ _ e))
