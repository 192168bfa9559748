-- Which answer each call may give, and when: one line for each refusal of the paper's table that the call may make, in the paper's
-- order, and one for what it gives. Each line asks that no earlier check refuses.
use Rattle.std.specs.Prelude.{◌≡◌, true, false, List, ℕ, ◌<◌, ◌≤◌, ℤ, pos, length}
use Rattle.refusal.specs.Rules as rule
use Rattle.refusal.specs.Answer.{Answer, gives, refuses}
use Rattle.morton.specs.Code.{row_of, column_of}
use Rattle.tiling.specs.Map.{limit, inside, colour_in}
use Rattle.tiling.specs.WellFormed.{WellFormed, FirstWrong}
use Rattle.lookups.specs.Neighbour.{is_block, row_away, column_away}
use Rattle.lookups.specs.declared.neighbours.Direction.{Direction}

-- list check: 1, 3
pub data Checks (n : ℕ) (l : List ℕ) : Answer ℕ → Type 0 where
  size : limit < n → Checks n l (refuses rule.size 0)
  list : {i : ℕ} → n ≤ limit → FirstWrong n l i → Checks n l (refuses rule.first_list i)
  right : n ≤ limit → WellFormed n l → Checks n l (gives (length l))

-- lookup: 1, 3, 9
pub data Looks (n : ℕ) (l : List ℕ) (row column : ℤ) : Answer ℕ → Type 0 where
  size : limit < n → Looks n l row column (refuses rule.size 0)
  list : {i : ℕ} → n ≤ limit → FirstWrong n l i → Looks n l row column (refuses rule.first_list i)
  outside : n ≤ limit → WellFormed n l → inside n row column ≡ false → Looks n l row column (refuses rule.outside 0)
  right : n ≤ limit → WellFormed n l → inside n row column ≡ true → Looks n l row column (gives (colour_in n l row column))

-- neighbour: 1, 12, 9; what it gives is the code of a block of the square, of the same level, with the row and the column one side away
pub data Nears (n k level : ℕ) (d : Direction) : Answer ℕ → Type 0 where
  size : limit < n → Nears n k level d (refuses rule.size 0)
  address : n ≤ limit → is_block n k level ≡ false → Nears n k level d (refuses rule.block_address 0)
  outside : n ≤ limit → is_block n k level ≡ true → inside n (row_away k level d) (column_away k level d) ≡ false
      → Nears n k level d (refuses rule.outside 0)
  right : {j : ℕ} → n ≤ limit → is_block n k level ≡ true → is_block n j level ≡ true
      → pos (row_of j) ≡ row_away k level d → pos (column_of j) ≡ column_away k level d → Nears n k level d (gives j)
