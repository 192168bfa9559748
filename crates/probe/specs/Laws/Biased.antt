-- Biased numbers stand for rows and columns: a map's colour is the same at both, and a step is the same.
use Rattle.std.specs.Prelude.{◌≡◌, refl, Bool, true, false, List, ℕ, suc, ◌+◌, ◌-◌, ◌^◌, ◌<◌, ◌≤◌, ltb, ℤ, pos, negsuc, ◌+ℤ◌, nat_abs}
use Rattle.std.proofs.Common.{ap, add_comm, arith, lt-ltb, le-ltb, le-leb, ltb-true, ltb-false}
use Rattle.std.proofs.Math.Bool.{and-false}
use Rattle.std.proofs.Math.Nat.{add-sub_cancel_left}
use Rattle.std.proofs.Math.IntN.{sub_ℕ}
use Rattle.std.proofs.lemmas.Bool.{lt-leb}
use Rattle.tiling.specs.Map.{colour_in, within}
use Rattle.probe.specs.Biased.{bias, reach, biased, within_b, cell_about}

-- a row or a column that is not below -2 ^ 18
abbrev pub Near : ℤ → Type 0
Near (pos v) = Unit {0}
Near (negsuc v) = v < bias

pub near : (v : ℤ) → nat_abs v ≤ reach → Near v
near (pos v) h = tt
near (negsuc v) h = omega arith

within-biased : (n : ℕ) (v : ℤ) → Near v → within_b n (biased v) ≡ within n v
within-biased n (pos v) h = rw (le-leb bias (bias + v) (omega arith)) (go (ltb v (2 ^ n)) refl)
  where
    go : (b : Bool) → ltb v (2 ^ n) ≡ b → ltb (bias + v) (bias + 2 ^ n) ≡ b
    go true p = lt-ltb (bias + v) (bias + 2 ^ n) (omega (arith, ltb-true v (2 ^ n) p))
    go false p = le-ltb (bias + v) (bias + 2 ^ n) (omega (arith, ltb-false v (2 ^ n) p))
within-biased n (negsuc v) h = rw (lt-leb bias (bias - suc v) (omega arith))

-- the colour of a map at biased numbers is that at the row and the column they stand for
pub colour_biased : (n : ℕ) (l : List ℕ) (r c : ℤ) → Near r → Near c → cell_about n l (biased r) (biased c) ≡ colour_in n l r c
unfolding cell_about colour_in
colour_biased n l (pos r) (pos c) hr hc =
    rw (within-biased n (pos r) hr, within-biased n (pos c) hc, add-sub_cancel_left bias r, add-sub_cancel_left bias c)
colour_biased n l (pos r) (negsuc c) hr hc = rw (within-biased n (negsuc c) hc, and-false (within_b n (bias + r)), and-false (within n (pos r)))
colour_biased n l (negsuc r) c hr hc = rw (within-biased n (negsuc r) hr)

-- a step south or east
pub biased_step : (z : ℤ) (y : ℕ) → Near z → biased (z +ℤ pos y) ≡ biased z + y
biased_step (pos v) y h = omega arith
biased_step (negsuc v) y h = go (ltb y (suc v)) refl
  where
    go : (b : Bool) → ltb y (suc v) ≡ b → biased (sub_ℕ y (suc v)) ≡ bias - suc v + y
    go true p = rw p (omega (arith, ltb-true y (suc v) p))
    go false p = rw p (omega (arith, ltb-false y (suc v) p))

pub near_step : (z : ℤ) (y : ℕ) → Near z → Near (z +ℤ pos y)
near_step (pos v) y h = tt
near_step (negsuc v) y h = go (ltb y (suc v)) refl
  where
    go : (b : Bool) → ltb y (suc v) ≡ b → Near (sub_ℕ y (suc v))
    go true p = rw p (omega (arith, ltb-true y (suc v) p))
    go false p = rw p tt

-- the sum that the code makes
pub biased_sum : (v : ℤ) → nat_abs v ≤ reach → v +ℤ pos bias ≡ pos (biased v)
biased_sum (pos v) h = ap pos (add_comm v bias)
biased_sum (negsuc v) h = rw (le-ltb bias (suc v) (omega arith))

pub biased-lt : (v : ℤ) → nat_abs v ≤ reach → biased v < 2 ^ 19
biased-lt (pos v) h = omega arith
biased-lt (negsuc v) h = omega arith
