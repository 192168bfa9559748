-- A well formed list as a run of entries, one right after another: the form that proofs go by, from the list's front.
use Rattle.std.specs.Prelude.{◌≡◌, refl, List, [], ◌∷◌, ℕ, zero, suc, ◌^◌, ◌<◌, ◌≤◌, length, get_or}
use Rattle.std.proofs.Common.{sym, ◌∙◌, suc-le-suc, not-suc-le-zero, le_of_suc-le-suc, zero-lt-suc, arith}
use Rattle.std.proofs.Math.Nat.{one-le-pow}
use Rattle.tiling.specs.Leaf.{code_of, end_of}
use Rattle.tiling.specs.WellFormed.{Right, end_before, WellFormed}

-- the entries run from e to e', each right after those before it
abbrev pub Run : ℕ → ℕ → List ℕ → ℕ → Type 0
Run n e [] e' = e ≡ e'
Run n e (w ∷ ws) e' = Right n e w × Run n (end_of w) ws e'

-- where the entries before entry i end, in a list that begins at e
abbrev pub end_from : ℕ → List ℕ → ℕ → ℕ
end_from e l zero = e
end_from e l (suc i) = end_of (get_or l i 0)

-- the same without the first entry
pub end_next : (e w : ℕ) (ws : List ℕ) (i : ℕ) → end_from e (w ∷ ws) (suc i) ≡ end_from (end_of w) ws i
end_next e w ws zero = refl
end_next e w ws (suc i) = refl

run_right : (n e : ℕ) (l : List ℕ) (e' : ℕ) → Run n e l e' → (i : ℕ) → i < length l → Right n (end_from e l i) (get_or l i 0)
run_right n e [] e' r i h = absurd (not-suc-le-zero h)
run_right n e (w ∷ ws) e' r zero h = r.0
run_right n e (w ∷ ws) e' r (suc i) h =
    rw (end_next e w ws i) (run_right n (end_of w) ws e' r.1 i (le_of_suc-le-suc h))

run_ends : (n e : ℕ) (l : List ℕ) (e' : ℕ) → Run n e l e' → end_from e l (length l) ≡ e'
run_ends n e [] e' r = r
run_ends n e (w ∷ ws) e' r = end_next e w ws (length ws) ∙ run_ends n (end_of w) ws e' r.1

right_run : (n e : ℕ) (l : List ℕ) (e' : ℕ) → ((i : ℕ) → i < length l → Right n (end_from e l i) (get_or l i 0))
    → end_from e l (length l) ≡ e' → Run n e l e'
right_run n e [] e' r q = q
right_run n e (w ∷ ws) e' r q = (
  r 0 (zero-lt-suc (length ws)),
  right_run n (end_of w) ws e' (λ i h. rw (end_next e w ws i) at (r (suc i) (suc-le-suc h))) (sym (end_next e w ws (length ws)) ∙ q),
)

pub from_zero : (l : List ℕ) (i : ℕ) → end_from 0 l i ≡ end_before l i
from_zero l zero = refl
from_zero l (suc i) = refl

-- the two forms say the same
pub run_formed : {n : ℕ} {l : List ℕ} → Run n 0 l (4 ^ n) → WellFormed n l
run_formed {n} {l} r = record {
  right = λ i h. rw (← from_zero l i) (run_right n 0 l (4 ^ n) r i h);
  ends = sym (from_zero l (length l)) ∙ run_ends n 0 l (4 ^ n) r;
}

pub formed_run : {n : ℕ} {l : List ℕ} → WellFormed n l → Run n 0 l (4 ^ n)
formed_run {n} {l} f = right_run n 0 l (4 ^ n) (λ i h. rw (from_zero l i) (f.right i h)) (from_zero l (length l) ∙ f.ends)

-- no entry begins before the run does
pub run_from : (n e : ℕ) (l : List ℕ) (e' : ℕ) → Run n e l e' → (i : ℕ) → i < length l → e ≤ code_of (get_or l i 0)
run_from n e [] e' r i h = absurd (not-suc-le-zero h)
run_from n e (w ∷ ws) e' r zero h = omega (arith, r.0.follows)
run_from n e (w ∷ ws) e' r (suc i) h =
    omega (arith, r.0.follows, run_from n (end_of w) ws e' r.1 i (le_of_suc-le-suc h))

-- a well formed list has an entry
pub formed_some : {n : ℕ} {l : List ℕ} → WellFormed n l → 0 < length l
formed_some {n} {l} f = go l f.ends
  where
    go : (l : List ℕ) → end_before l (length l) ≡ 4 ^ n → 0 < length l
    go [] e = absurd (omega (arith, one-le-pow n 4 (omega arith)))
    go (w ∷ ws) e = zero-lt-suc (length ws)
