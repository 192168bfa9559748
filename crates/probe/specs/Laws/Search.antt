-- A search goes by where entries begin. The code lies in the leaf that begins at or before it and whose follower begins past it.
use Rattle.std.specs.Prelude.{◌≡◌, true, false, List, ℕ, zero, suc, ◌+◌, ◌-◌, ◌<◌, ◌≤◌, length, get_or, leb}
use Rattle.std.specs.List.{between}
use Rattle.std.specs.List.Sorted.{IsNonDecreasingBy, IsPartitionedBy, IsPartitionPoint}
use Rattle.std.proofs.Common.{ap, ◌∙◌, subst, arith, leb-true, leb-false}
use Rattle.std.proofs.Math.Decide.{dec_lt}
use Rattle.std.proofs.Math.Nat.{le_refl}
use Rattle.std.proofs.lemmas.List.{get_or_default}
use Rattle.std.proofs.lemmas.List.Edits.{length-between, get_or-between}
use Rattle.std.proofs.lemmas.List.Sorted.{IsPartitionedBy-leb}
use Rattle.tiling.specs.Leaf.{code_of, colour_of, end_of}
use Rattle.tiling.specs.Map.{colour_at}
use Rattle.tiling.specs.WellFormed.{Right, WellFormed, end_before}
use Rattle.tiling.specs.Laws.Run.{formed_some}
use Rattle.tiling.specs.Laws.Colour.{leaf_shows}
use Rattle.probe.specs.Search.{Spans, Found, Between}

module _ (l : List ℕ) (k : ℕ) (s : Spans l k) where
  -- an entry begins where those before it end
  pub begins_at : (i : ℕ) → i < length l → code_of (get_or l i 0) ≡ end_before l i
  begins_at i h = (s.formed.right i h).follows

  -- the list ends past the code
  past_end : k < end_before l (length l)
  past_end = omega (arith, s.formed.ends, s.inside)

  pub in_all : Between l k 0 (length l)
  in_all = record { spans = s; order = formed_some s.formed; listed = omega arith; begins = omega arith; ends = past_end }

  -- a place before which the code lies is not the first
  pub not_first : (i : ℕ) → k < end_before l i → 0 < i
  not_first zero h = absurd (omega arith)
  not_first (suc i) h = omega arith

  pub from_first : (i : ℕ) → i ≤ length l → k < end_before l i → Between l k 0 i
  from_first i g h = record { spans = s; order = not_first i h; listed = g; begins = omega arith; ends = h }

  pub to_last : (i : ℕ) → i < length l → end_before l i ≤ k → Between l k i (length l)
  to_last i g h = record { spans = s; order = g; listed = omega arith; begins = h; ends = past_end }

  pub between_found : (i : ℕ) → i < length l → end_before l i ≤ k → k < end_before l (suc i) → Found l k i
  between_found i h a b = record { listed = h; begins = omega (arith, begins_at i h); ends = b }

-- entries begin one after another
codes_rise : (n : ℕ) (l : List ℕ) → WellFormed n l → (i d : ℕ) → i + d < length l → code_of (get_or l i 0) ≤ code_of (get_or l (i + d) 0)
codes_rise n l f i zero h = let e : i + 0 ≡ i = omega arith in rw e (le_refl (code_of (get_or l i 0)))
codes_rise n l f i (suc d) h =
    let e : i + suc d ≡ suc (i + d) = omega arith in
    let r = f.right (suc (i + d)) (omega arith) in
    rw e (omega (arith, codes_rise n l f i d (omega arith), r.follows, code_le_end (get_or l (i + d) 0)))
  where
    code_le_end : (w : ℕ) → code_of w ≤ end_of w
    code_le_end w = omega arith

-- so the leaf is the last of those from one place on and before another that do not begin past the code
module _ (l : List ℕ) (k from to : ℕ) (b : Between l k from to) where
  abbrev part : List ℕ
  part = between from to l

  part_length : length part ≡ to - from
  part_length = length-between l from to b.listed

  part_at : (i d : ℕ) → i < to - from → get_or part i d ≡ get_or l (from + i) 0
  part_at i d h = get_or-between l from to i d (omega arith) ∙ get_or_default l (from + i) d 0 (omega (arith, b.listed))

  pub parted : IsPartitionedBy (λ (w : ℕ). leb (code_of w) k) part
  parted = IsPartitionedBy-leb code_of part k rising
    where
      rising : IsNonDecreasingBy code_of part
      rising i j d le lt =
          let e : from + i + (j - i) ≡ from + j = omega arith in
          rw (part_at i d (omega (arith, part_length)), part_at j d (omega (arith, part_length)))
          (rw e at (codes_rise b.spans.size l b.spans.formed (from + i) (j - i) (omega (arith, part_length, b.listed))))

  -- one at least does not begin past it, and behind the last of them the next does, or none is left
  module _ (i : ℕ) (q : IsPartitionPoint (λ (w : ℕ). leb (code_of w) k ≡ true) (λ (w : ℕ). leb (code_of w) k ≡ false) part i) where
    code_at : (j : ℕ) → j < to - from → code_of (get_or part j 0) ≡ end_before l (from + j)
    code_at j h = ap code_of (part_at j 0 h) ∙ begins_at l k b.spans (from + j) (omega (arith, b.listed))

    past : (j : ℕ) → i ≤ j → j < to - from → k < end_before l (from + j)
    past j le lt = omega (arith, leb-false _ _ (q.1 j 0 le (omega (arith, part_length))), code_at j lt)

    pub some_ahead : 1 ≤ i
    some_ahead = elim (dec_lt 0 i) [
      | yes h ↦ h
      | no h ↦ let e : from + 0 ≡ from = omega arith in absurd (omega (arith, rw e at (past 0 (omega arith) (omega (arith, b.order))), b.begins))
    ]

    pub last_ahead : i ≤ length part → Found l k (from + (i - 1))
    last_ahead h =
        let m = i - 1 in
        let p = some_ahead in
        let n = part_length in
        let s : from + i ≡ suc (from + m) = omega arith in
        between_found l k b.spans (from + m) (omega (arith, b.listed))
        (omega (arith, leb-true _ _ (q.0 m 0 (omega arith) (omega arith)), code_at m (omega arith)))
        (subst (λ (x : ℕ). k < end_before l x) s (elim (dec_lt i (to - from)) [
          | yes u ↦ past i (omega arith) u
          | no u ↦ let t : to ≡ from + i = omega (arith, b.order) in subst (λ (x : ℕ). k < end_before l x) t b.ends
        ]))

module _ (n : ℕ) (l : List ℕ) (f : WellFormed n l) (k i : ℕ) (g : Found l k i) where
  -- the list shows the leaf's colour there
  pub found_colour : colour_at l k ≡ colour_of (get_or l i 0)
  found_colour = leaf_shows f i k g.listed g.begins g.ends

  -- the leaf is a block of the square
  pub found_right : Right n (code_of (get_or l i 0)) (get_or l i 0)
  found_right = rw (f.right i g.listed).follows (f.right i g.listed)
