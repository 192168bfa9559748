-- The check names the first wrong entry of a list that is not well formed.
use Rattle.std.specs.Prelude.{◌≡◌, refl, Bool, true, false, cond, List, [], ◌∷◌, ◌⊎◌, ℕ, zero, suc, ◌+◌, ◌^◌, ◌<◌, eqb, length, get_or, Result, Ok, Err}
use Rattle.std.proofs.Common.{sym, ap, ◌∙◌, inl, inr, ⊎_elim, not-suc-le-zero, le_of_suc-le-suc, zero-lt-suc, arith}
use Rattle.std.proofs.lemmas.Bool.{false≢true, eqb-false}
use Rattle.std.proofs.Math.Decide.{dec_lt}
use Rattle.tiling.specs.Leaf.{end_of}
use Rattle.tiling.specs.WellFormed.{Right, WellFormed, FirstWrong}
use Rattle.tiling.specs.Check.{right_entry, checked_from, checked}
use Rattle.tiling.specs.Laws.Run.{end_from, end_next, from_zero}
use Rattle.tiling.specs.Laws.Check.{entry_right, right_entry_lem, tiles_formed}

-- the first wrong entry of a list that begins at e, which the walk from the front finds d places on
record WrongFrom (n e : ℕ) (l : List ℕ) (i j : ℕ) : Type 0 where
  d : ℕ
  place : j ≡ i + d
  before : (k : ℕ) → k < d → Right n (end_from e l k) (get_or l k 0)
  here : ((d < length l) × (Right n (end_from e l d) (get_or l d 0) → ⊥)) ⊎ ((d ≡ length l) × (end_from e l d ≡ 4 ^ n → ⊥))

-- one entry to the front, which is right
further : (n e i j w : ℕ) (ws : List ℕ) → Right n e w → WrongFrom n (end_of w) ws (suc i) j → WrongFrom n e (w ∷ ws) i j
further n e i j w ws r f = record {
  d = suc f.d;
  place = omega (arith, f.place);
  before = all;
  here = ⊎_elim
      (λ a. inl (omega (arith, a.0), λ x. a.1 (rw (end_next e w ws f.d) at x)))
      (λ a. inr (ap suc a.0, λ x. a.1 (rw (end_next e w ws f.d) at x)))
      f.here;
}
  where
    all : (k : ℕ) → k < suc f.d → Right n (end_from e (w ∷ ws) k) (get_or (w ∷ ws) k 0)
    all zero h = r
    all (suc k) h = rw (end_next e w ws k) (f.before k (le_of_suc-le-suc h))

wrong_from : (n e i : ℕ) (l : List ℕ) (j : ℕ) → checked_from n e i l ≡ Err j → WrongFrom n e l i j
unfolding checked_from
wrong_from n e i [] j h = go (eqb e (4 ^ n)) refl h
  where
    go : (b : Bool) → eqb e (4 ^ n) ≡ b → cond b (Ok (tt {0})) (Err i) ≡ Err j → WrongFrom n e [] i j
    go true q x = let z : ◌≡◌ {A = ℕ} 0 1 = cc in absurd (omega arith)
    go false q x = record {
      d = 0;
      place = let y : i ≡ j = cc in omega arith;
      before = λ k l. absurd (not-suc-le-zero l);
      here = inr (refl, eqb-false e (4 ^ n) q);
    }
wrong_from n e i (w ∷ ws) j h = go (right_entry n e w) refl h (wrong_from n (end_of w) (suc i) ws j)
  where
    go : (b : Bool) → right_entry n e w ≡ b → cond b (checked_from n (end_of w) (suc i) ws) (Err i) ≡ Err j
        → (checked_from n (end_of w) (suc i) ws ≡ Err j → WrongFrom n (end_of w) ws (suc i) j) → WrongFrom n e (w ∷ ws) i j
    go true q x f = further n e i j w ws (entry_right n e w q) (f x)
    go false q x f = record {
      d = 0;
      place = let y : i ≡ j = cc in omega arith;
      before = λ k l. absurd (not-suc-le-zero l);
      here = inl (zero-lt-suc (length ws), λ r. false≢true (sym q ∙ right_entry_lem n e w r));
    }

pub wrong_first : (n : ℕ) (l : List ℕ) (i : ℕ) → checked n l ≡ Err i → FirstWrong n l i
wrong_first n l i h =
    let f = wrong_from n 0 0 l i h in
    let e : f.d ≡ i = omega (arith, f.place) in
    record {
      before = λ j k. rw (← from_zero l j) (f.before j (omega arith));
      here = rw (← e, ← from_zero l f.d) f.here;
    }

-- no position before the first wrong entry is another such
not_before : (n : ℕ) (l : List ℕ) (i j : ℕ) → FirstWrong n l i → FirstWrong n l j → i < j → ⊥
not_before n l i j f g h =
    ⊎_elim (λ a. a.1 (g.before i h))
    (λ a. ⊎_elim (λ b. omega (arith, a.0, b.0)) (λ b. omega (arith, a.0, b.0)) g.here) f.here

pub first_wrong_one : (n : ℕ) (l : List ℕ) (i j : ℕ) → FirstWrong n l i → FirstWrong n l j → i ≡ j
first_wrong_one n l i j f g =
    elim (dec_lt i j) [
      | yes a ↦ absurd (not_before n l i j f g a)
      | no a ↦ elim (dec_lt j i) [ yes b ↦ absurd (not_before n l j i g f b) | no b ↦ omega arith ]
    ]

-- a well formed list has no wrong entry
formed_none : (n : ℕ) (l : List ℕ) (i : ℕ) → WellFormed n l → FirstWrong n l i → ⊥
formed_none n l i w f = ⊎_elim (λ a. a.1 (w.right i a.0)) (λ a. a.1 (rw a.0 w.ends)) f.here

-- so the check names a position exactly if the first wrong entry stands there
pub first_wrong : (n : ℕ) (l : List ℕ) (i : ℕ) → FirstWrong n l i → checked n l ≡ Err i
first_wrong n l i f = go (checked n l) refl
  where
    go : (c : Result (Unit {0}) ℕ) → checked n l ≡ c → checked n l ≡ Err i
    go (Ok u) e = absurd (formed_none n l i (tiles_formed n l e) f)
    go (Err j) e = e ∙ ap Err (first_wrong_one n l j i (wrong_first n l j e) f)
