-- What each call answers, by what was found on the way to the answer.
use Rattle.std.specs.Prelude.{◌≡◌, true, false, List, ℕ, ◌<◌, ◌≤◌, ℤ, nat_abs, length, Ok, Err}
use Rattle.std.proofs.Common.{lt-ltb, le-ltb}
use Rattle.refusal.specs.Rules as rule
use Rattle.refusal.specs.Answer.{gives, refuses}
use Rattle.morton.specs.Code.{code}
use Rattle.tiling.specs.Map.{limit, inside, colour_in}
use Rattle.tiling.specs.Check.{checked}
use Rattle.lookups.specs.Lists.{list_check, cell_lookup}
use Rattle.lookups.specs.Neighbour.{is_block, row_away, column_away, neighbour}
use Rattle.lookups.specs.declared.neighbours.Direction.{Direction}

module _ (n : ℕ) (l : List ℕ) where
  pub check_size : limit < n → refuses rule.size 0 ≡ list_check n l
  unfolding list_check
  check_size h = rw (lt-ltb limit n h)

  module _ (hn : n ≤ limit) where
    pub check_wrong : (i : ℕ) → checked n l ≡ Err i → refuses rule.first_list i ≡ list_check n l
    unfolding list_check
    check_wrong i e = rw (le-ltb limit n hn, e)

    pub check_gives : checked n l ≡ Ok tt → gives (length l) ≡ list_check n l
    unfolding list_check
    check_gives e = rw (le-ltb limit n hn, e)

module _ (n : ℕ) (l : List ℕ) (row column : ℤ) where
  pub lookup_size : limit < n → refuses rule.size 0 ≡ cell_lookup n l row column
  unfolding cell_lookup
  lookup_size h = rw (lt-ltb limit n h)

  module _ (hn : n ≤ limit) where
    pub lookup_wrong : (i : ℕ) → checked n l ≡ Err i → refuses rule.first_list i ≡ cell_lookup n l row column
    unfolding cell_lookup
    lookup_wrong i e = rw (le-ltb limit n hn, e)

    pub lookup_outside : checked n l ≡ Ok tt → inside n row column ≡ false → refuses rule.outside 0 ≡ cell_lookup n l row column
    unfolding cell_lookup
    lookup_outside e h = rw (le-ltb limit n hn, e, h)

    pub lookup_gives : checked n l ≡ Ok tt → inside n row column ≡ true → gives (colour_in n l row column) ≡ cell_lookup n l row column
    unfolding cell_lookup
    lookup_gives e h = rw (le-ltb limit n hn, e, h)

module _ (n k level : ℕ) (d : Direction) where
  pub neighbour-size : limit < n → refuses rule.size 0 ≡ neighbour n k level d
  unfolding neighbour
  neighbour-size h = rw (lt-ltb limit n h)

  module _ (hn : n ≤ limit) where
    pub neighbour_block : is_block n k level ≡ false → refuses rule.block_address 0 ≡ neighbour n k level d
    unfolding neighbour
    neighbour_block b = rw (le-ltb limit n hn, b)

    module _ (b : is_block n k level ≡ true) where
      pub neighbour-outside : inside n (row_away k level d) (column_away k level d) ≡ false → refuses rule.outside 0 ≡ neighbour n k level d
      unfolding neighbour
      neighbour-outside h = rw (le-ltb limit n hn, b, h)

      pub neighbour_gives : inside n (row_away k level d) (column_away k level d) ≡ true
          → gives (code (nat_abs (row_away k level d)) (nat_abs (column_away k level d))) ≡ neighbour n k level d
      unfolding neighbour
      neighbour_gives h = rw (le-ltb limit n hn, b, h)
