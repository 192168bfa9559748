-- The leaf of a list in which a code lies, and where it is sought.
use Rattle.std.specs.Prelude.{List, ℕ, ◌^◌, ◌<◌, ◌≤◌, length, get_or}
use Rattle.tiling.specs.Leaf.{code_of, end_of}
use Rattle.tiling.specs.WellFormed.{WellFormed, end_before}

-- the list is well formed for some size, and the code lies in that square; it is said of a list whatever its size, and not of a `Map`,
-- which names one: the search is handed a list alone, and no step of it reads a size
pub record Spans (l : List ℕ) (k : ℕ) : Type 0 where
  pub size : ℕ
  pub formed : WellFormed size l
  pub inside : k < 4 ^ size

-- the code lies in leaf i
pub record Found (l : List ℕ) (k i : ℕ) : Type 0 where
  pub listed : i < length l
  pub begins : code_of (get_or l i 0) ≤ k
  pub ends : k < end_of (get_or l i 0)

-- it lies at or after one place and before another
pub record Between (l : List ℕ) (k from to : ℕ) : Type 0 where
  pub spans : Spans l k
  pub order : from < to
  pub listed : to ≤ length l
  pub begins : end_before l from ≤ k
  pub ends : k < end_before l to

pub record After (l : List ℕ) (k from : ℕ) : Type 0 where
  pub spans : Spans l k
  pub listed : from < length l
  pub begins : end_before l from ≤ k

pub record Before (l : List ℕ) (k to : ℕ) : Type 0 where
  pub spans : Spans l k
  pub some : 0 < to
  pub listed : to ≤ length l
  pub ends : k < end_before l to
