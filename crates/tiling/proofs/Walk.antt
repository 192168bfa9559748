-- One turn of the check's walk over a list.
use Rattle.std.proofs.Math.Path.{◌≡◌}
use Rattle.std.specs.Prelude.{Ok, Err}
use Rattle.std.proofs.Common.{false, List, length, drop, ℕ, ◌+◌, ◌^◌, ◌<◌, ◌≤◌, add-one}
use Rattle.std.proofs.Math.ListN.{get_or, drop_of_length-le}
use Rattle.std.proofs.Math.Seq.{drop-cons}
use borrow.Author.Tests.{eq-eqb, ne_eqb}
use Rattle.tiling.specs.Leaf.{end_of}
use Rattle.tiling.specs.WellFormed.{Right}
use Rattle.tiling.specs.Laws.Check.{right_entry_lem}
use Rattle.tiling.specs.Check.{right_entry, checked_from, checked}

-- the check of the list is that of what is left, after i entries that are right and end at e
abbrev pub Walked : ℕ → List ℕ → ℕ → ℕ → Type 0
Walked n l e i = checked n l ≡ checked_from n e i (drop i l)

module _ (n : ℕ) (l : List ℕ) (e i : ℕ) (k : Walked n l e i) where
  pub whole : length l ≤ i → e ≡ 4 ^ n → Ok tt ≡ checked n l
  unfolding checked_from
  whole h p = rw (k, drop_of_length-le l h, eq-eqb e (4 ^ n) p)

  pub short : length l ≤ i → (e ≡ 4 ^ n → ⊥) → Err i ≡ checked n l
  unfolding checked_from
  short h p = rw (k, drop_of_length-le l h, ne_eqb e (4 ^ n) p)

  module _ (h : i < length l) where
    pub wrong : right_entry n e (get_or l i 0) ≡ false → Err i ≡ checked n l
    unfolding checked_from
    wrong p = rw (k, drop-cons l i 0 h, p)

    pub right : Right n e (get_or l i 0) → Walked n l (end_of (get_or l i 0)) (i + 1)
    unfolding checked_from
    right p = rw (k, drop-cons l i 0 h, right_entry_lem n e (get_or l i 0) p, add-one)
