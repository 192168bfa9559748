-- Placing gives each answer exactly if it is allowed.
use Rattle.std.specs.Prelude.{◌≡◌, ℕ, ◌+◌, Bool, true, false, T, ℤ, pos, negsuc, ◌-ℤ◌, ◌*ℤ◌, ◌<ℤ◌, ◌≢◌, int_lt, refl, Float, Option, Some, None, Result, Ok, Err}
use Rattle.std.proofs.Common.{sym, ap, ◌∙◌, subst, true≢false, arith, ltb→lt, eqb-true}
use Rattle.std.specs.Int.Signed.{lt_z_yes}
use Rattle.refusal.specs.Rules as rule
use Rattle.refusal.specs.Answer.{Answer, gives, refuses}
use Rattle.place.specs.Placing.{in1024ths, cell_side, above_zero, need, reading, exact, same, far, offsets, between, of_reading, on_ground, placed}
use Rattle.place.specs.Allowed.{Is, Reads, FirstUnusable, InCells, OnTheGround, Places, Lies}
use Rattle.place.specs.Laws.Integers.{same_yes, first-far, second-far, both_near, cells_differ, rows_split, columns_split, shifted}
use Rattle.place.specs.Laws.Readings.{no_north, no_east, no_cell, all_there, first_bad, second_bad, both_read}
use Rattle.place.specs.Laws.Meaning.{given, in1024ths_is, is_in1024ths, exact_is, is_exact}
use Rattle.place.specs.declared.Ground.{Ground}
use Rattle.place.specs.declared.Place.{Place}
use Rattle.place.specs.declared.Place.TheVariants.{Cells, OnGround}
use Rattle.place.specs.declared.Shift.{Shift}
use Rattle.place.specs.declared.Reading.{Reading}

-- ---- a number that is there, and one that is not
none : {z : ℤ} → None ≢ Some z
none e = let h : ◌≡◌ {A = ℕ} 0 1 = cc e in absurd (omega arith)

not_there : (w : Option ℤ) → ((z : ℤ) → w ≢ Some z) → w ≡ None
not_there None h = refl
not_there (Some z) h = absurd (h z refl)

no_number : (x : Float) → ((z : ℤ) → Is x z → ⊥) → in1024ths x ≡ None
no_number x h = not_there (in1024ths x) (λ z e. h z (in1024ths_is x z e))

never : (x : Float) → in1024ths x ≡ None → (z : ℤ) → Is x z → ⊥
never x e z i = none (sym e ∙ is_in1024ths x z i)

-- ---- a cell side
truth : (b : Bool) → T b → b ≡ true
truth true t = refl
truth false t = absurd t

a_side : (x : Float) (z : ℤ) → Is x z → pos 0 <ℤ z → cell_side x ≡ Some z
unfolding cell_side
a_side x z i h = rw (is_in1024ths x z i, truth (int_lt (pos 0) z) h.lt)

above_is : (w : Option ℤ) (z : ℤ) → above_zero w ≡ Some z → (w ≡ Some z) × (pos 0 <ℤ z)
above_is None z e = absurd (none e)
above_is (Some y) z e =
    let g = given (int_lt (pos 0) y) y z e in
    (ap Some g.1, subst (λ x. pos 0 <ℤ x) g.1 (lt_z_yes (subst T (sym g.0) tt)))

side_is : (x : Float) (z : ℤ) → cell_side x ≡ Some z → Is x z × (pos 0 <ℤ z)
unfolding cell_side
side_is x z e = let a = above_is (in1024ths x) z e in (in1024ths_is x z a.0, a.1)

no_side : (x : Float) → ((z : ℤ) → Is x z → pos 0 <ℤ z → ⊥) → cell_side x ≡ None
no_side x h = not_there (cell_side x) (λ z e. let s = side_is x z e in h z s.0 s.1)

-- ---- a reference
usable : (g : Ground) {n e c : ℤ} → Reads g n e c → reading g ≡ Ok (record { north = n; east = e; cell = c })
usable g r = sym (all_there g (is_in1024ths _ _ r.north) (is_in1024ths _ _ r.east) (a_side _ _ r.cell r.above))

unusable : (g : Ground) (k : ℕ) → FirstUnusable g k → reading g ≡ Err k
unusable g k (FirstUnusable.north h) = sym (no_north g (no_number _ h))
unusable g k (FirstUnusable.east n i h) = sym (no_east g (is_in1024ths _ n i) (no_number _ h))
unusable g k (FirstUnusable.cell n e i j h) = sym (no_cell g (is_in1024ths _ n i) (is_in1024ths _ e j) (no_side _ h))

-- what is known of a reference by its reading
abbrev Seen : Ground → Result Reading ℕ → Type 0
Seen g (Ok r) = Reads g r.north r.east r.cell
Seen g (Err k) = FirstUnusable g k

seen : (g : Ground) → Seen g (reading g)
unfolding reading
seen g = go (in1024ths g.north) refl (in1024ths g.east) refl (cell_side g.cell) refl
  where
    go : (a : Option ℤ) → in1024ths g.north ≡ a → (b : Option ℤ) → in1024ths g.east ≡ b → (c : Option ℤ) → cell_side g.cell ≡ c
        → Seen g (need a (Err 0) λ n. need b (Err 1) λ e. need c (Err 2) λ s. Ok (record { north = n; east = e; cell = s }))
    go None p b q c r = FirstUnusable.north (never g.north p)
    go (Some n) p None q c r = FirstUnusable.east n (in1024ths_is g.north n p) (never g.east q)
    go (Some n) p (Some e) q None r =
        FirstUnusable.cell n e (in1024ths_is g.north n p) (in1024ths_is g.east e q) (λ z i h. none (sym r ∙ a_side g.cell z i h))
    go (Some n) p (Some e) q (Some s) r =
        let k = side_is g.cell s r in
        record { north = in1024ths_is g.north n p; east = in1024ths_is g.east e q; cell = k.0; above = k.1 }

-- ---- a place in cells
module _ (dy dx : ℤ) where
  in_cells : InCells dy dx (offsets dy dx)
  in_cells = go (far dy) refl (far dx) refl
    where
      go : (s : Bool) → far dy ≡ s → (t : Bool) → far dx ≡ t → InCells dy dx (offsets dy dx)
      go true p t q = rw (← first-far dy dx p) (InCells.row p)
      go false p true q = rw (← second-far dy dx p q) (InCells.column p q)
      go false p false q = rw (← both_near dy dx p q) (InCells.right p q)

  from_cells : (a : Answer Shift) → InCells dy dx a → offsets dy dx ≡ a
  from_cells a (InCells.row p) = sym (first-far dy dx p)
  from_cells a (InCells.column p q) = sym (second-far dy dx p q)
  from_cells a (InCells.right p q) = sym (both_near dy dx p q)

-- ---- equal sides, and whole cells
same_is : (x y : ℤ) → same x y ≡ true → x ≡ y
same_is (pos x) (pos y) e = ap pos (eqb-true x y e)
same_is (pos x) (negsuc y) e = absurd (true≢false (sym e))
same_is (negsuc x) (pos y) e = absurd (true≢false (sym e))
same_is (negsuc x) (negsuc y) e = ap negsuc (eqb-true x y e)

not_same : (x y : ℤ) → (x ≢ y) → same x y ≡ false
not_same x y h = go (same x y) refl
  where
    go : (b : Bool) → same x y ≡ b → b ≡ false
    go true e = absurd (h (same_is x y e))
    go false e = refl

exact_of : (z c q : ℤ) → pos 0 <ℤ c → exact z c ≡ Some q → q *ℤ c ≡ z
exact_of z (pos k) q h e = exact_is z q k e
exact_of z (negsuc k) q h e = absurd h.lt

of_exact : (z c q : ℤ) → pos 0 <ℤ c → q *ℤ c ≡ z → exact z c ≡ Some q
of_exact z (pos k) q h e = is_exact z q k (ltb→lt 0 k h.lt) e
of_exact z (negsuc k) q h e = absurd h.lt

no_exact : (z c : ℤ) → pos 0 <ℤ c → ((q : ℤ) → q *ℤ c ≢ z) → exact z c ≡ None
no_exact z c h f = not_there (exact z c) (λ q e. f q (exact_of z c q h e))

never_exact : (z c : ℤ) → pos 0 <ℤ c → exact z c ≡ None → (q : ℤ) → q *ℤ c ≢ z
never_exact z c h n q e = none (sym n ∙ of_exact z c q h e)

-- ---- a place on the ground
module _ (a b : Ground) where
  met : (x y : Reading) → Seen a (Ok x) → Seen b (Ok y) → OnTheGround a b (between x y)
  met x y r s = go (same x.cell y.cell) refl (exact (x.north -ℤ y.north) x.cell) refl (exact (y.east -ℤ x.east) x.cell) refl
    where
      alike : same x.cell y.cell ≡ true → Reads b y.north y.east x.cell
      alike p = subst (λ c. Reads b y.north y.east c) (sym (same_is x.cell y.cell p)) s

      go : (t : Bool) → same x.cell y.cell ≡ t → (u : Option ℤ) → exact (x.north -ℤ y.north) x.cell ≡ u → (v : Option ℤ) → exact (y.east -ℤ x.east) x.cell ≡ v
          → OnTheGround a b (between x y)
      go false p u q v w = rw (← cells_differ x y p) (OnTheGround.sides r s (λ e. true≢false (sym (same_yes x.cell y.cell e) ∙ p)))
      go true p None q v w = rw (← rows_split x y p q) (OnTheGround.rows r (alike p) (never_exact _ x.cell r.above q))
      go true p (Some dy) q None w = rw (← columns_split x y p dy q w)
          (OnTheGround.columns dy r (alike p) (exact_of _ x.cell dy r.above q) (never_exact _ x.cell r.above w))
      go true p (Some dy) q (Some dx) w = rw (← shifted x y p dy dx q w)
          (OnTheGround.whole r (alike p) (exact_of _ x.cell dy r.above q) (exact_of _ x.cell dx r.above w) (in_cells dy dx))

  on_the_ground : OnTheGround a b (on_ground a b)
  unfolding on_ground
  on_the_ground = go (reading a) (seen a) (reading b) (seen b)
    where
      go : (u : Result Reading ℕ) → Seen a u → (v : Result Reading ℕ) → Seen b v
          → OnTheGround a b
          (of_reading u (λ k. refuses rule.ground_number k) λ x. of_reading v (λ k. refuses rule.ground_number (k + 3)) λ y. between x y)
      go (Err k) f v g = OnTheGround.first f
      go (Ok x) f (Err k) g = OnTheGround.second f g
      go (Ok x) f (Ok y) g = met x y f g

  from_ground : (x : Answer Shift) → OnTheGround a b x → on_ground a b ≡ x
  from_ground x (OnTheGround.first {k = k} f) = sym (first_bad a b (unusable a k f))
  from_ground x (OnTheGround.second {k = k} r f) = sym (second_bad a b (usable a r) (unusable b k f))
  from_ground x (OnTheGround.sides r s h) = sym (cells_differ _ _ (not_same _ _ h) ∙ both_read a b (usable a r) (usable b s))
  from_ground x (OnTheGround.rows {c = c} r s h) =
      sym (rows_split _ _ (same_yes c c refl) (no_exact _ _ r.above h) ∙ both_read a b (usable a r) (usable b s))
  from_ground x (OnTheGround.columns {c = c} dy r s e h) =
      sym (columns_split _ _ (same_yes c c refl) dy (of_exact _ _ dy r.above e) (no_exact _ _ r.above h) ∙ both_read a b (usable a r) (usable b s))
  from_ground x (OnTheGround.whole {c = c} {dy = dy} {dx = dx} r s e f i) =
      sym (shifted _ _ (same_yes c c refl) dy dx (of_exact _ _ dy r.above e) (of_exact _ _ dx r.above f) ∙ both_read a b (usable a r) (usable b s))
      ∙ from_cells dy dx x i

-- ---- both
pub places : (p : Place) → Places p (placed p)
unfolding placed
places (Cells dy dx) = in_cells dy dx
places (OnGround a b) = on_the_ground a b

pub from_places : (p : Place) (x : Answer Shift) → Places p x → placed p ≡ x
unfolding placed
from_places (Cells dy dx) x i = from_cells dy dx x i
from_places (OnGround a b) x i = from_ground a b x i

-- ---- a shift on the ground
abbrev Shown : Ground → Ground → Answer Shift → Type 0
Shown a b (gives s) = Lies a b s.dy s.dx
Shown a b (refuses r k) = Unit

shown : (a b : Ground) (x : Answer Shift) → OnTheGround a b x → Shown a b x
shown a b x (OnTheGround.first f) = tt
shown a b x (OnTheGround.second r f) = tt
shown a b x (OnTheGround.sides r s h) = tt
shown a b x (OnTheGround.rows r s h) = tt
shown a b x (OnTheGround.columns dy r s e h) = tt
shown a b x (OnTheGround.whole r s e f (InCells.row p)) = tt
shown a b x (OnTheGround.whole r s e f (InCells.column p q)) = tt
shown a b x (OnTheGround.whole {n1 = n1} {e1 = e1} {n2 = n2} {e2 = e2} {c = c} r s e f (InCells.right p q)) =
    record { north1 = n1; east1 = e1; north2 = n2; east2 = e2; cell = c; first = r; second = s; rows = e; columns = f; rows_near = p; columns_near = q }

pub lies : (a b : Ground) (dy dx : ℤ) → placed (OnGround a b) ≡ gives (record { dy = dy; dx = dx }) → Lies a b dy dx
lies a b dy dx e = subst (Shown a b) e (shown a b _ (places (OnGround a b)))

pub from_lies : (a b : Ground) (dy dx : ℤ) → Lies a b dy dx → placed (OnGround a b) ≡ gives (record { dy = dy; dx = dx })
from_lies a b dy dx l = from_places (OnGround a b) _ (OnTheGround.whole l.first l.second l.rows l.columns (InCells.right l.rows_near l.columns_near))
