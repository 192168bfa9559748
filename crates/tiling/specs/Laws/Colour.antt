-- The colour of a code is that of the one leaf in which it lies.
use Rattle.std.specs.Prelude.{◌≡◌, refl, Bool, true, false, cond, List, [], ◌∷◌, ℕ, zero, suc, ◌^◌, ◌<◌, ◌≤◌, ltb, ℤ, nat_abs, length, get_or}
use Rattle.std.proofs.Common.{not-suc-le-zero, le_of_suc-le-suc, arith, lt-ltb, le-ltb}
use Rattle.tiling.specs.Leaf.{code_of, colour_of, end_of, colours}
use Rattle.morton.specs.Code.{code}
use Rattle.tiling.specs.Map.{colour_at, inside, colour_in}
use Rattle.tiling.specs.WellFormed.{WellFormed}
use Rattle.tiling.specs.Laws.Run.{Run, run_from, formed_run}

run_colour : (n e : ℕ) (l : List ℕ) (e' : ℕ) → Run n e l e' → (i k : ℕ) → i < length l
    → code_of (get_or l i 0) ≤ k → k < end_of (get_or l i 0) → colour_at l k ≡ colour_of (get_or l i 0)
unfolding colour_at
run_colour n e [] e' r i k h a b = absurd (not-suc-le-zero h)
run_colour n e (w ∷ ws) e' r zero k h a b = rw (lt-ltb k (end_of w) b)
run_colour n e (w ∷ ws) e' r (suc i) k h a b =
    rw (le-ltb k (end_of w) (omega (arith, run_from n (end_of w) ws e' r.1 i (le_of_suc-le-suc h))))
    (run_colour n (end_of w) ws e' r.1 i k (le_of_suc-le-suc h) a b)

pub leaf_shows : {n : ℕ} {l : List ℕ} → WellFormed n l → (i k : ℕ) → i < length l
    → code_of (get_or l i 0) ≤ k → k < end_of (get_or l i 0) → colour_at l k ≡ colour_of (get_or l i 0)
leaf_shows {n} {l} f i k h a b = run_colour n 0 l (4 ^ n) (formed_run f) i k h a b

-- the map's colour at a cell within its square
pub colour_inside : (n : ℕ) (l : List ℕ) (row column : ℤ) → inside n row column ≡ true → colour_in n l row column ≡ colour_at l (code (nat_abs row) (nat_abs column))
unfolding colour_in
colour_inside n l row column h = rw h

-- colours are below 256
pub colour_lt : (l : List ℕ) (k : ℕ) → colour_at l k < colours
unfolding colour_at
colour_lt [] k = omega arith
colour_lt (w ∷ ws) k = go (ltb k (end_of w)) refl (colour_lt ws k)
  where
    go : (b : Bool) → ltb k (end_of w) ≡ b → colour_at ws k < colours → cond b (colour_of w) (colour_at ws k) < colours
    go true e h = omega arith
    go false e h = h
