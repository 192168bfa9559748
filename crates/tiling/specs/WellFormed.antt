-- A list is well formed for n if its leaves tile the square of size n in code order.
use Rattle.std.specs.Prelude.{◌≡◌, List, ◌⊎◌, ℕ, zero, suc, ◌%◌, ◌^◌, ◌<◌, ◌≤◌, length, get_or}
use Rattle.tiling.specs.Leaf.{code_of, level_of, end_of}

-- entry w is right in a map of size n, after entries that end at e
pub record Right (n e w : ℕ) : Type 0 where
  pub level : level_of w ≤ n
  pub follows : code_of w ≡ e
  pub inside : e < 4 ^ n
  pub aligned : e % 4 ^ level_of w ≡ 0

-- where the entries before entry i end: at 0 for the first
abbrev pub end_before : List ℕ → ℕ → ℕ
end_before l zero = 0
end_before l (suc i) = end_of (get_or l i 0)

-- entry i of the list is right where it stands
abbrev pub RightAt : ℕ → List ℕ → ℕ → Type 0
RightAt n l i = Right n (end_before l i) (get_or l i 0)

-- every entry is right, and after the last the end is 4 ^ n
pub record WellFormed (n : ℕ) (l : List ℕ) : Type 0 where
  pub right : (i : ℕ) → i < length l → RightAt n l i
  pub ends : end_before l (length l) ≡ 4 ^ n

-- position i is that of the first wrong entry: all before it are right, and it is wrong, or the list stops short there
pub record FirstWrong (n : ℕ) (l : List ℕ) (i : ℕ) : Type 0 where
  pub before : (j : ℕ) → j < i → RightAt n l j
  pub here : ((i < length l) × (RightAt n l i → ⊥)) ⊎ ((i ≡ length l) × (end_before l i ≡ 4 ^ n → ⊥))
