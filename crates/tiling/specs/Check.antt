-- The check of a list: the position of the first wrong entry, or the length if the list stops short.
use Rattle.std.specs.Prelude.{Bool, ◌&&◌, cond, List, [], ◌∷◌, ℕ, suc, ◌%◌, ◌^◌, leb, ltb, eqb, Option, Some, None, Result, Ok, Err}
use Rattle.tiling.specs.Leaf.{code_of, level_of, end_of}

-- the test that entry w is right in a map of size n, after entries that end at e
abbrev pub right_entry : ℕ → ℕ → ℕ → Bool
right_entry n e w = leb (level_of w) n && eqb (code_of w) e && ltb e (4 ^ n) && eqb (e % 4 ^ level_of w) 0

-- where it ends if it is right
abbrev pub right_end : ℕ → ℕ → ℕ → Option ℕ
right_end n e w = cond (right_entry n e w) (Some (end_of w)) None

-- the rest of a list, after i entries that are right and end at e
unfoldable pub checked_from : ℕ → ℕ → ℕ → List ℕ → Result (Unit {0}) ℕ
checked_from n e i [] = cond (eqb e (4 ^ n)) (Ok tt) (Err i)
checked_from n e i (w ∷ ws) = cond (right_entry n e w) (checked_from n (end_of w) (suc i) ws) (Err i)

abbrev pub checked : ℕ → List ℕ → Result (Unit {0}) ℕ
checked n l = checked_from n 0 0 l
