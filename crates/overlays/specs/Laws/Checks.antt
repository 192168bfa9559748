-- The checks of an overlay, one after another: which refusal they come to, and that they let pass what is right.
use Rattle.std.specs.Prelude.{◌≡◌, refl, Bool, true, false, List, [], ℕ, ◌<◌, ◌≤◌, ltb, ℤ, nat_abs, Result, Ok, Err}
use Rattle.std.proofs.Common.{arith, lt-ltb, le-ltb, ltb-false}
use Rattle.refusal.specs.Rules as rule
use Rattle.refusal.specs.Answer.{gives, refuses, refuse_if}
use Rattle.refusal.specs.Judged.{unless, refuse_wrong}
use Rattle.refusal.specs.declared.Refusal.{Refusal}
use Rattle.tiling.specs.Map.{limit}
use Rattle.tiling.specs.Check.{checked}
use Rattle.shortest.specs.Outcome.{Outcome}
use Rattle.place.specs.Placing.{far, farthest_offset}
use Rattle.place.specs.declared.Shift.{Shift}
use Rattle.overlays.specs.Overlay.{sizes, offsets, lists, judged}
use Rattle.overlays.specs.declared.Window.{Window}

module _ (n m w : ℕ) (x : Outcome) where
  pub size-first : limit < n → refuses rule.size 0 ≡ sizes n m w x
  size-first h = rw (lt-ltb limit n h)

  pub size-second : n ≤ limit → limit < m → refuses rule.size 1 ≡ sizes n m w x
  size-second a h = rw (le-ltb limit n a, lt-ltb limit m h)

  pub size_window : n ≤ limit → m ≤ limit → limit < w → refuses rule.size 2 ≡ sizes n m w x
  size_window a b h = rw (le-ltb limit n a, le-ltb limit m b, lt-ltb limit w h)

  pub sizes_fine : n ≤ limit → m ≤ limit → w ≤ limit → x ≡ sizes n m w x
  sizes_fine a b h = rw (le-ltb limit n a, le-ltb limit m b, le-ltb limit w h)

module _ (dy dx wy wx : ℤ) (x : Outcome) where
  pub far_dy : far dy ≡ true → refuses rule.offset 0 ≡ offsets dy dx wy wx x
  far_dy h = rw h

  pub far_dx : far dy ≡ false → far dx ≡ true → refuses rule.offset 1 ≡ offsets dy dx wy wx x
  far_dx a h = rw (a, h)

  pub far_wy : far dy ≡ false → far dx ≡ false → far wy ≡ true → refuses rule.offset 2 ≡ offsets dy dx wy wx x
  far_wy a b h = rw (a, b, h)

  pub far_wx : far dy ≡ false → far dx ≡ false → far wy ≡ false → far wx ≡ true → refuses rule.offset 3 ≡ offsets dy dx wy wx x
  far_wx a b d h = rw (a, b, d, h)

  pub offsets_fine : far dy ≡ false → far dx ≡ false → far wy ≡ false → far wx ≡ false → x ≡ offsets dy dx wy wx x
  offsets_fine a b d h = rw (a, b, d, h)

module _ (n : ℕ) (a : List ℕ) (m : ℕ) (b : List ℕ) (x : Outcome) where
  pub first_wrong : (i : ℕ) → checked n a ≡ Err i → refuses rule.first_list i ≡ lists n a m b x
  first_wrong i e = rw e

  pub second_wrong : (i : ℕ) → checked n a ≡ Ok tt → checked m b ≡ Err i → refuses rule.second_list i ≡ lists n a m b x
  second_wrong i e f = rw (e, f)

  pub lists_fine : checked n a ≡ Ok tt → checked m b ≡ Ok tt → x ≡ lists n a m b x
  lists_fine e f = rw (e, f)

-- ---- what is known if the checks let everything pass
stopped : {B : Type 0} (r k : ℕ) → ◌≡◌ {A = Outcome} (gives []) (refuses r k) → B
stopped r k e = let h : ◌≡◌ {A = ℕ} 0 1 = cc e in absurd (omega arith)

pub sizes_pass : (n m w : ℕ) (y : Outcome) → gives [] ≡ sizes n m w y → (n ≤ limit) × (m ≤ limit) × (w ≤ limit) × (gives [] ≡ y)
sizes_pass n m w y h = go (ltb limit n) refl (ltb limit m) refl (ltb limit w) refl h
  where
    go : (p : Bool) → ltb limit n ≡ p → (q : Bool) → ltb limit m ≡ q → (r : Bool) → ltb limit w ≡ r
        → gives [] ≡ refuse_if p rule.size 0 (refuse_if q rule.size 1 (refuse_if r rule.size 2 y)) → (n ≤ limit) × (m ≤ limit) × (w ≤ limit) × (gives [] ≡ y)
    go true e q f r g z = stopped rule.size 0 z
    go false e true f r g z = stopped rule.size 1 z
    go false e false f true g z = stopped rule.size 2 z
    go false e false f false g z = (ltb-false _ _ e, ltb-false _ _ f, ltb-false _ _ g, z)

pub record Near (dy dx wy wx : ℤ) : Type 0 where
  pub dy_near : nat_abs dy ≤ farthest_offset
  pub dx_near : nat_abs dx ≤ farthest_offset
  pub wy_near : nat_abs wy ≤ farthest_offset
  pub wx_near : nat_abs wx ≤ farthest_offset

pub offsets_pass : (dy dx wy wx : ℤ) (y : Outcome) → gives [] ≡ offsets dy dx wy wx y → Near dy dx wy wx × (gives [] ≡ y)
offsets_pass dy dx wy wx y h = go (far dy) refl (far dx) refl (far wy) refl (far wx) refl h
  where
    go : (p : Bool) → far dy ≡ p → (q : Bool) → far dx ≡ q → (r : Bool) → far wy ≡ r → (s : Bool) → far wx ≡ s
        → gives [] ≡ refuse_if p rule.offset 0 (refuse_if q rule.offset 1 (refuse_if r rule.offset 2 (refuse_if s rule.offset 3 y))) → Near dy dx wy wx × (gives [] ≡ y)
    go true e q f r g s k z = stopped rule.offset 0 z
    go false e true f r g s k z = stopped rule.offset 1 z
    go false e false f true g s k z = stopped rule.offset 2 z
    go false e false f false g true k z = stopped rule.offset 3 z
    go false e false f false g false k z =
        (record { dy_near = ltb-false _ _ e; dx_near = ltb-false _ _ f; wy_near = ltb-false _ _ g; wx_near = ltb-false _ _ k }, z)

pub lists_pass : (n : ℕ) (a : List ℕ) (m : ℕ) (b : List ℕ) (y : Outcome) → gives [] ≡ lists n a m b y → (checked n a ≡ Ok tt) × (checked m b ≡ Ok tt)
lists_pass n a m b y h = go (checked n a) refl (checked m b) refl h
  where
    go : (p : Result (Unit {0}) ℕ) → checked n a ≡ p → (q : Result (Unit {0}) ℕ) → checked m b ≡ q
        → gives [] ≡ refuse_wrong rule.first_list p (refuse_wrong rule.second_list q y) → (checked n a ≡ Ok tt) × (checked m b ≡ Ok tt)
    go (Err i) e q f z = stopped rule.first_list i z
    go (Ok u) e (Err i) f z = stopped rule.second_list i z
    go (Ok u) e (Ok v) f z = (e, f)

-- all that is right if nothing is refused
pub record Right (n : ℕ) (a : List ℕ) (m : ℕ) (b : List ℕ) (s : Shift) (w : Window) : Type 0 where
  pub first-size : n ≤ limit
  pub second-size : m ≤ limit
  pub window_size : w.size ≤ limit
  pub near : Near s.dy s.dx w.wy w.wx
  pub first_tiles : checked n a ≡ Ok tt
  pub second_tiles : checked m b ≡ Ok tt

pub judged_right : (n : ℕ) (a : List ℕ) (m : ℕ) (b : List ℕ) (s : Shift) (w : Window) → gives [] ≡ judged n a m b s w (gives []) → Right n a m b s w
judged_right n a m b s w h =
    let p = sizes_pass n m w.size _ h in
    let q = offsets_pass s.dy s.dx w.wy w.wx _ p.3 in
    let r = lists_pass n a m b (gives []) q.1 in
    record { first-size = p.0; second-size = p.1; window_size = p.2; near = q.0; first_tiles = r.0; second_tiles = r.1 }

-- what is refused is refused whatever comes after
pub bad_any : {A : Type 0} (v : Result A Refusal) (r : Refusal) → v ≡ Err r → (x y : Outcome) → unless v x ≡ unless v y
bad_any v r e x y = rw e

-- what nothing refuses passes
pub fine_passes : {A : Type 0} (v : Result A Refusal) (u : A) → v ≡ Ok u → (x : Outcome) → unless v x ≡ x
fine_passes v u e x = rw e
