-- Numbers past the last name, and the pair that a shift is written as.
use Rattle.std.specs.Prelude.{◌≡◌, refl, ℕ, zero, suc, ◌≤◌, None, cond, List, [], ◌∷◌, ◌+◌, ◌*◌, ◌^◌, ◌<◌, ltb, ℤ, length, set}
use Rattle.std.proofs.Common.{arith, lt-ltb, le-ltb}
use Rattle.capi.specs.Code.{operation_of, direction_of, unnamed, pair_coded, pair_left}
use Rattle.refusal.specs.Answer.{Answer, gives, refuses}
use Rattle.place.specs.declared.Shift.{Shift}

pub no_operation : (k : ℕ) → 3 ≤ k → None ≡ operation_of k
no_operation zero h = absurd (omega arith)
no_operation (suc zero) h = absurd (omega arith)
no_operation (suc (suc zero)) h = absurd (omega arith)
no_operation (suc (suc (suc k))) h = refl

pub no_direction : (k : ℕ) → 8 ≤ k → None ≡ direction_of k
no_direction zero h = absurd (omega arith)
no_direction (suc zero) h = absurd (omega arith)
no_direction (suc (suc zero)) h = absurd (omega arith)
no_direction (suc (suc (suc zero))) h = absurd (omega arith)
no_direction (suc (suc (suc (suc zero)))) h = absurd (omega arith)
no_direction (suc (suc (suc (suc (suc zero))))) h = absurd (omega arith)
no_direction (suc (suc (suc (suc (suc (suc zero)))))) h = absurd (omega arith)
no_direction (suc (suc (suc (suc (suc (suc (suc zero))))))) h = absurd (omega arith)
no_direction (suc (suc (suc (suc (suc (suc (suc (suc k)))))))) h = refl

-- ---- the pair that a shift is written as
module _ (x : Answer Shift) (old : List ℤ) where
  pub pair_short : length old < 2 → (unnamed ≡ cond (ltb (length old) 2) unnamed (pair_coded x)) × (old ≡ cond (ltb (length old) 2) old (pair_left x old))
  pair_short h = rw (lt-ltb (length old) 2 h) (refl, refl)

  pub pair_refused : (r k : ℕ) → 2 ≤ length old → x ≡ refuses r k
      → (r * 2 ^ 32 + k ≡ cond (ltb (length old) 2) unnamed (pair_coded x)) × (old ≡ cond (ltb (length old) 2) old (pair_left x old))
  pair_refused r k h e = rw (le-ltb (length old) 2 h, e) (refl, refl)

two_set : (old : List ℤ) (s : Shift) → 2 ≤ length old → set (set old 0 s.dy) 1 s.dx ≡ pair_left (gives s) old
two_set [] s h = absurd (omega arith)
two_set (a ∷ []) s h = absurd (omega arith)
two_set (a ∷ b ∷ t) s h = refl

pub pair_given : (x : Answer Shift) (old : List ℤ) (s : Shift) → 2 ≤ length old → x ≡ gives s
    → (0 ≡ cond (ltb (length old) 2) unnamed (pair_coded x)) × (set (set old 0 s.dy) 1 s.dx ≡ cond (ltb (length old) 2) old (pair_left x old))
pair_given x old s h e = rw (le-ltb (length old) 2 h, e) (refl, two_set old s h)
