-- Laws of spread numbers: a code is two of them, and a table of them is judged by one test.
use Rattle.std.specs.Prelude.{◌≡◌, refl, Bool, true, false, ◌&&◌, List, [], ◌∷◌, ℕ, zero, suc, ◌+◌, ◌*◌, ◌/◌, ◌%◌, ◌^◌, ◌<◌, eqb, length, get_or}
use Rattle.std.proofs.Common.{sym, ap, ◌∙◌, pow-suc, div-one, add-zero, add-suc, suc-add, zero-add, le_of_suc-le-suc, not-suc-le-zero, arith, pow_pos, eqb-true}
use Rattle.std.proofs.Math.Nat.{pow-succ'}
use Rattle.std.proofs.Math.Arith.{mod-mul}
use Rattle.morton.specs.Code.{interleaved, spread}
use Rattle.morton.specs.Spreads.{Spreads}
use Rattle.morton.specs.Laws.Code.{half_pow}

-- the row's bit before the column's
pub code-spread : (b r c : ℕ) → interleaved b r c ≡ 2 * spread b r + spread b c
unfolding interleaved spread
code-spread zero r c = refl
code-spread (suc b) r c = omega (arith, code-spread b (r / 2) (c / 2))

pub spread-lt : (b v : ℕ) → spread b v < 4 ^ b
unfolding spread
spread-lt zero v = omega arith
spread-lt (suc b) v = omega (arith, spread-lt b (v / 2))

-- the high bits and the low bits
pub spread_split : (b L v : ℕ) → spread (b + L) v ≡ spread b (v / 2 ^ L) * 4 ^ L + spread L v
unfolding spread
spread_split b zero v = rw (add-zero, div-one) (omega arith)
spread_split b (suc L) v = rw (add-suc, ← half_pow, pow-succ' 4 L) (omega (arith, spread_split b L (v / 2)))

-- only the lowest b bits count
pub spread-mod : (b v : ℕ) → spread b (v % 2 ^ b) ≡ spread b v
unfolding spread
spread-mod zero v = refl
spread-mod (suc b) v =
    let e : v % 2 ^ suc b ≡ (v / 2 % 2 ^ b) * 2 + v % 2 = rw pow-suc (mod-mul v (pow_pos b) (omega arith)) in
    let h : v % 2 ^ suc b / 2 ≡ v / 2 % 2 ^ b = omega arith in
    rw h (omega (arith, spread-mod b (v / 2)))

-- the test of a table, which antt computes over all its entries: each is the spread number of its place, from i on
abbrev pub spreads_from : ℕ → List ℕ → Bool
spreads_from i [] = true
spreads_from i (x ∷ xs) = eqb x (spread 8 i) && spreads_from (suc i) xs

and_true : (a b : Bool) → (a && b) ≡ true → (a ≡ true) × (b ≡ true)
and_true true b h = (refl, h)
and_true false b h = (h, cc)

from : (i : ℕ) (xs : List ℕ) → spreads_from i xs ≡ true → (k : ℕ) → k < length xs → get_or xs k 0 ≡ spread 8 (i + k)
from i [] t k h = absurd (not-suc-le-zero h)
from i (x ∷ xs) t zero h = eqb-true x (spread 8 i) (and_true (eqb x (spread 8 i)) (spreads_from (suc i) xs) t).0 ∙ ap (spread 8) (sym (add-zero i))
from i (x ∷ xs) t (suc k) h =
    from (suc i) xs (and_true (eqb x (spread 8 i)) (spreads_from (suc i) xs) t).1 k (le_of_suc-le-suc h) ∙ ap (spread 8) (suc-add i k ∙ sym (add-suc i k))

-- what the test shows of a table of 256 entries
pub spreads : (table : List ℕ) → length table ≡ 256 → spreads_from 0 table ≡ true → Spreads table
spreads table len t = record { entry = λ v h. from 0 table t v (omega arith) ∙ ap (spread 8) (zero-add v) }
