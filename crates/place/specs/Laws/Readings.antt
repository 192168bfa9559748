-- What the spec's readings are within: a usable number is at most 2 ^ 34 of 1024ths, a cell side is above zero. And the ways through `reading` and `on_ground`.
use Rattle.std.specs.Prelude.{◌≡◌, ℕ, zero, suc, ◌+◌, ◌*◌, ◌/◌, ◌%◌, ◌<◌, ◌≤◌, Bool, true, false, cond, ◌&&◌, T, leb, ℤ, pos, ◌<ℤ◌, ◌==◌, int_lt, nat_le, unsigned_abs, refl, Float, Option, Some, None, Result, Ok, Err}
use Rattle.std.proofs.Common.{arith, lit<, leb-true}
use Rattle.std.specs.Int.Signed.{lt_z_yes}
use Rattle.std.specs.Float.{nan, inf, fin}
use Rattle.std.specs.Float.Ieee.{up, down}
use Rattle.std.specs.Float.Ieee.Fits.{down_pos}
use Rattle.refusal.specs.Rules as rule
use Rattle.refusal.specs.Answer.{refuses}
use Rattle.place.specs.Placing.{reach, signed, in1024ths, above_zero, cell_side, need, reading, between, on_ground}
use Rattle.place.specs.declared.Ground.{Ground}
use Rattle.place.specs.declared.Reading.{Reading}
use Rattle.place.specs.Laws.Scaling.{small_div}

-- ---- bounds
abbrev Small : Option ℤ → Type 0
Small None = Unit
Small (Some z) = unsigned_abs z ≤ reach

abbrev Above : Option ℤ → Type 0
Above None = Unit
Above (Some z) = pos 0 <ℤ z

abbrev pub Within : Result Reading ℕ → Type 0
Within (Err k) = k < 3
Within (Ok r) = (unsigned_abs r.north ≤ reach) × (unsigned_abs r.east ≤ reach) × (pos 0 <ℤ r.cell)

pub size_of : (s : Bool) (n : ℕ) → unsigned_abs (signed s n) ≡ n
size_of false n = refl
size_of true zero = refl
size_of true (suc n) = refl

small_by : (p q : Bool) (z : ℤ) → (q ≡ true → unsigned_abs z ≤ reach) → Small (cond (p && q) (Some z) None)
small_by true true z h = h refl
small_by true false z h = tt
small_by false q z h = tt

small : (x : Float) → Small (in1024ths x)
unfolding in1024ths
small nan = tt
small (inf s) = tt
small (fin s m e) =
    small_by (m * up e * 1024 % down e == 0) (nat_le (m * up e) (16777216 * down e)) (signed s (m * up e * 1024 / down e))
    (λ (h : leb (m * up e) (16777216 * down e) ≡ true).
    let l : m * up e ≤ 16777216 * down e = leb-true _ _ h in
    rw (size_of s (m * up e * 1024 / down e)) (small_div (m * up e * 1024) (down e) (down_pos e) (omega arith)))

above_by : (b : Bool) (z : ℤ) → (T b → pos 0 <ℤ z) → Above (cond b (Some z) None)
above_by true z h = h tt
above_by false z h = tt

above_zero_lem : (c : Option ℤ) → Above (above_zero c)
above_zero_lem None = tt
above_zero_lem (Some z) = above_by (int_lt (pos 0) z) z lt_z_yes

above : (x : Float) → Above (cell_side x)
unfolding cell_side
above x = above_zero_lem (in1024ths x)

pub within : (g : Ground) → Within (reading g)
unfolding reading
within g = go (in1024ths g.north) (in1024ths g.east) (cell_side g.cell) (small g.north) (small g.east) (above g.cell)
  where
    go : (a b c : Option ℤ) → Small a → Small b → Above c → Within (need a (Err 0) λ n. need b (Err 1) λ e. need c (Err 2) λ s. Ok (record { north = n; east = e; cell = s }))
    go None b c x y z = lit< tt
    go (Some n) None c x y z = lit< tt
    go (Some n) (Some e) None x y z = lit< tt
    go (Some n) (Some e) (Some s) x y z = (x, y, z)

-- ---- the ways through `reading`
module _ (g : Ground) where
  pub no_north : in1024ths g.north ≡ None → Err 0 ≡ reading g
  unfolding reading
  no_north e = rw e

  pub no_east : {n : ℤ} → in1024ths g.north ≡ Some n → in1024ths g.east ≡ None → Err 1 ≡ reading g
  unfolding reading
  no_east e h = rw (e, h)

  pub no_cell : {n m : ℤ} → in1024ths g.north ≡ Some n → in1024ths g.east ≡ Some m → cell_side g.cell ≡ None → Err 2 ≡ reading g
  unfolding reading
  no_cell e h k = rw (e, h, k)

  pub all_there : {n m c : ℤ} → in1024ths g.north ≡ Some n → in1024ths g.east ≡ Some m → cell_side g.cell ≡ Some c → Ok (record { north = n; east = m; cell = c }) ≡ reading g
  unfolding reading
  all_there e h k = rw (e, h, k)

-- ---- and through `on_ground`
module _ (a b : Ground) where
  pub first_bad : {k : ℕ} → reading a ≡ Err k → refuses rule.ground_number k ≡ on_ground a b
  unfolding on_ground
  first_bad e = rw e

  pub second_bad : {r : Reading} {k : ℕ} → reading a ≡ Ok r → reading b ≡ Err k → refuses rule.ground_number (k + 3) ≡ on_ground a b
  unfolding on_ground
  second_bad e h = rw (e, h)

  pub both_read : {r s : Reading} → reading a ≡ Ok r → reading b ≡ Ok s → between r s ≡ on_ground a b
  unfolding on_ground
  both_read e h = rw (e, h)
