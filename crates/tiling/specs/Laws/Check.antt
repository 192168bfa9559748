-- The check accepts exactly the well formed lists.
use Rattle.std.specs.Prelude.{◌≡◌, refl, Bool, true, false, ◌&&◌, cond, List, [], ◌∷◌, ℕ, suc, ◌%◌, ◌^◌, leb, ltb, eqb, Some, None, Ok, Err}
use Rattle.std.proofs.lemmas.Option.{none-some, same_Some}
use Rattle.std.proofs.Common.{sym, arith, leb-true, eqb-true, ltb-true, le-leb, eq-eqb, lt-ltb}
use Rattle.tiling.specs.Leaf.{code_of, level_of, end_of}
use Rattle.tiling.specs.WellFormed.{Right, WellFormed}
use Rattle.tiling.specs.Check.{right_entry, right_end, checked_from, checked}
use Rattle.tiling.specs.Laws.Tests.{and_both, both_and}
use Rattle.tiling.specs.Laws.Run.{Run, run_formed, formed_run}

pub entry_right : (n e w : ℕ) → right_entry n e w ≡ true → Right n e w
entry_right n e w h =
    let x = and_both (leb (level_of w) n && eqb (code_of w) e && ltb e (4 ^ n)) (eqb (e % 4 ^ level_of w) 0) h in
    let y = and_both (leb (level_of w) n && eqb (code_of w) e) (ltb e (4 ^ n)) x.0 in
    let z = and_both (leb (level_of w) n) (eqb (code_of w) e) y.0 in
    record { level = leb-true _ _ z.0; follows = eqb-true _ _ z.1; inside = ltb-true _ _ y.1; aligned = eqb-true _ _ x.1 }

pub right_entry_lem : (n e w : ℕ) → Right n e w → right_entry n e w ≡ true
right_entry_lem n e w r =
    both_and (leb (level_of w) n && eqb (code_of w) e && ltb e (4 ^ n)) (eqb (e % 4 ^ level_of w) 0)
    (both_and (leb (level_of w) n && eqb (code_of w) e) (ltb e (4 ^ n))
    (both_and (leb (level_of w) n) (eqb (code_of w) e) (le-leb _ _ r.level) (eq-eqb _ _ r.follows)) (lt-ltb _ _ r.inside))
    (eq-eqb _ _ r.aligned)

-- where an entry ends that is right, and that no other ends anywhere
pub is_right : (n e w : ℕ) → Right n e w → Some (end_of w) ≡ right_end n e w
is_right n e w r = rw (right_entry_lem n e w r) refl

pub not_right : (n e w : ℕ) → (Right n e w → ⊥) → None ≡ right_end n e w
not_right n e w h = go (right_entry n e w) refl
  where
    go : (b : Bool) → right_entry n e w ≡ b → None ≡ cond (right_entry n e w) (Some (end_of w)) None
    go true q = absurd (h (entry_right n e w q))
    go false q = rw q refl

-- where an entry ends tells whether it is right
pub ends_right : (n e w r : ℕ) → Some r ≡ right_end n e w → (right_entry n e w ≡ true) × (r ≡ end_of w)
ends_right n e w r h = go (right_entry n e w) refl h
  where
    go : (b : Bool) → right_entry n e w ≡ b → Some r ≡ cond b (Some (end_of w)) None → (right_entry n e w ≡ true) × (r ≡ end_of w)
    go true q x = (q, same_Some r (end_of w) x)
    go false q x = absurd (none-some r (sym x))

pub ends_wrong : (n e w : ℕ) → None ≡ right_end n e w → right_entry n e w ≡ false
ends_wrong n e w h = go (right_entry n e w) refl h
  where
    go : (b : Bool) → right_entry n e w ≡ b → None ≡ cond b (Some (end_of w)) None → right_entry n e w ≡ false
    go true q x = absurd (none-some (end_of w) x)
    go false q x = q

tiles_run : (n e i : ℕ) (l : List ℕ) → checked_from n e i l ≡ Ok tt → Run n e l (4 ^ n)
unfolding checked_from
tiles_run n e i [] h = go (eqb e (4 ^ n)) refl h
  where
    go : (b : Bool) → eqb e (4 ^ n) ≡ b → cond b (Ok (tt {0})) (Err i) ≡ Ok tt → e ≡ 4 ^ n
    go true q x = eqb-true e (4 ^ n) q
    go false q x = let z : ◌≡◌ {A = ℕ} 0 1 = cc in absurd (omega arith)
tiles_run n e i (w ∷ ws) h = go (right_entry n e w) refl h (tiles_run n (end_of w) (suc i) ws)
  where
    go : (b : Bool) → right_entry n e w ≡ b → cond b (checked_from n (end_of w) (suc i) ws) (Err i) ≡ Ok tt
        → (checked_from n (end_of w) (suc i) ws ≡ Ok tt → Run n (end_of w) ws (4 ^ n)) → Right n e w × Run n (end_of w) ws (4 ^ n)
    go true q x f = (entry_right n e w q, f x)
    go false q x f = let z : ◌≡◌ {A = ℕ} 0 1 = cc in absurd (omega arith)

run_tiles : (n e i : ℕ) (l : List ℕ) → Run n e l (4 ^ n) → checked_from n e i l ≡ Ok tt
unfolding checked_from
run_tiles n e i [] r = rw (eq-eqb e (4 ^ n) r)
run_tiles n e i (w ∷ ws) r = rw (right_entry_lem n e w r.0) (run_tiles n (end_of w) (suc i) ws r.1)

pub tiles_formed : (n : ℕ) (l : List ℕ) → checked n l ≡ Ok tt → WellFormed n l
tiles_formed n l h = run_formed (tiles_run n 0 _ l h)

pub formed_tiles : (n : ℕ) (l : List ℕ) → WellFormed n l → checked n l ≡ Ok tt
formed_tiles n l f = run_tiles n 0 _ l (formed_run f)
