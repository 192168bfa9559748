-- Each call's answer is one that is allowed, and an answer that is allowed is the call's.
use Rattle.std.specs.Prelude.{◌≡◌, refl, Bool, true, false, List, ℕ, ltb, ℤ, Result, Ok, Err}
use Rattle.std.proofs.Common.{sym, ap, ◌∙◌, ltb-true, ltb-false}
use Rattle.refusal.specs.Answer.{Answer, gives}
use Rattle.tiling.specs.Map.{limit, inside}
use Rattle.tiling.specs.Check.{checked}
use Rattle.tiling.specs.Laws.Check.{tiles_formed, formed_tiles}
use Rattle.tiling.proofs.FirstWrong.{wrong_first, first_wrong}
use Rattle.lookups.specs.Lists.{list_check, cell_lookup}
use Rattle.lookups.specs.Neighbour.{is_block, row_away, column_away, neighbour}
use Rattle.lookups.specs.Allowed.{Checks, Looks, Nears}
use Rattle.lookups.specs.Laws.Ways.{check_size, check_wrong, check_gives, lookup_size, lookup_wrong, lookup_outside, lookup_gives, neighbour-size, neighbour_block, neighbour-outside, neighbour_gives}
use Rattle.lookups.specs.Laws.Away.{away_block, block_away}
use Rattle.lookups.specs.declared.neighbours.Direction.{Direction}

module _ (n : ℕ) (l : List ℕ) where
  pub checks : Checks n l (list_check n l)
  checks = go (ltb limit n) refl (checked n l) refl
    where
      go : (b : Bool) → ltb limit n ≡ b → (c : Result (Unit {0}) ℕ) → checked n l ≡ c → Checks n l (list_check n l)
      go true p c e = rw (← check_size n l (ltb-true _ _ p)) (Checks.size (ltb-true _ _ p))
      go false p (Ok u) e = rw (← check_gives n l (ltb-false _ _ p) e) (Checks.right (ltb-false _ _ p) (tiles_formed n l e))
      go false p (Err i) e = rw (← check_wrong n l (ltb-false _ _ p) i e) (Checks.list (ltb-false _ _ p) (wrong_first n l i e))

  pub from_checks : (a : Answer ℕ) → Checks n l a → list_check n l ≡ a
  from_checks a (Checks.size h) = sym (check_size n l h)
  from_checks a (Checks.list {i = i} h f) = sym (check_wrong n l h i (first_wrong n l i f))
  from_checks a (Checks.right h f) = sym (check_gives n l h (formed_tiles n l f))

module _ (n : ℕ) (l : List ℕ) (row column : ℤ) where
  pub looks_up : Looks n l row column (cell_lookup n l row column)
  looks_up = go (ltb limit n) refl (checked n l) refl (inside n row column) refl
    where
      go : (b : Bool) → ltb limit n ≡ b → (c : Result (Unit {0}) ℕ) → checked n l ≡ c → (t : Bool) → inside n row column ≡ t
          → Looks n l row column (cell_lookup n l row column)
      go true p c e t q = rw (← lookup_size n l row column (ltb-true _ _ p)) (Looks.size (ltb-true _ _ p))
      go false p (Err i) e t q = rw (← lookup_wrong n l row column (ltb-false _ _ p) i e) (Looks.list (ltb-false _ _ p) (wrong_first n l i e))
      go false p (Ok u) e true q = rw (← lookup_gives n l row column (ltb-false _ _ p) e q) (Looks.right (ltb-false _ _ p) (tiles_formed n l e) q)
      go false p (Ok u) e false q = rw (← lookup_outside n l row column (ltb-false _ _ p) e q) (Looks.outside (ltb-false _ _ p) (tiles_formed n l e) q)

  pub from_looks : (a : Answer ℕ) → Looks n l row column a → cell_lookup n l row column ≡ a
  from_looks a (Looks.size h) = sym (lookup_size n l row column h)
  from_looks a (Looks.list {i = i} h f) = sym (lookup_wrong n l row column h i (first_wrong n l i f))
  from_looks a (Looks.outside h f q) = sym (lookup_outside n l row column h (formed_tiles n l f) q)
  from_looks a (Looks.right h f q) = sym (lookup_gives n l row column h (formed_tiles n l f) q)

module _ (n k level : ℕ) (d : Direction) where
  pub nears_by : Nears n k level d (neighbour n k level d)
  nears_by = go (ltb limit n) refl (is_block n k level) refl (inside n (row_away k level d) (column_away k level d)) refl
    where
      go : (b : Bool) → ltb limit n ≡ b → (s : Bool) → is_block n k level ≡ s → (t : Bool)
          → inside n (row_away k level d) (column_away k level d) ≡ t → Nears n k level d (neighbour n k level d)
      go true p s e t q = rw (← neighbour-size n k level d (ltb-true _ _ p)) (Nears.size (ltb-true _ _ p))
      go false p false e t q = rw (← neighbour_block n k level d (ltb-false _ _ p) e) (Nears.address (ltb-false _ _ p) e)
      go false p true e true q =
          let a = away_block n k level d (ltb-false _ _ p) e q in
          rw (← neighbour_gives n k level d (ltb-false _ _ p) e q) (Nears.right (ltb-false _ _ p) e a.block a.row a.column)
      go false p true e false q = rw (← neighbour-outside n k level d (ltb-false _ _ p) e q) (Nears.outside (ltb-false _ _ p) e q)

  pub from_nears : (a : Answer ℕ) → Nears n k level d a → neighbour n k level d ≡ a
  from_nears a (Nears.size h) = sym (neighbour-size n k level d h)
  from_nears a (Nears.address h e) = sym (neighbour_block n k level d h e)
  from_nears a (Nears.outside h e q) = sym (neighbour-outside n k level d h e q)
  from_nears a (Nears.right {j = j} h e b r c) =
      let s = block_away n k level d h j b r c in
      sym (neighbour_gives n k level d h e s.0) ∙ ap gives s.1
