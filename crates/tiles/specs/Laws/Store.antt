-- Colours stored at one place after another.
use Rattle.std.specs.Prelude.{◌≡◌, refl, List, ℕ, ◌+◌, ◌<◌, ◌≤◌, length, get_or, set, replicate, take, drop, ◌-◌}
use Rattle.std.proofs.Common.{sym, ap, ◌∙◌, arith, get_or-set_same, get_or-set_other}
use Rattle.std.proofs.Common.{rules}
use Rattle.std.proofs.lemmas.List.{places}
use borrow.Rule.Slice.PartMut.{put_mid}
use Rattle.std.proofs.Math.Decide.{dec_lt}
use Rattle.tiles.specs.Tile.{Stored, plain}

pub stored_none : (l : List ℕ) (from : ℕ) (h : ℕ → ℕ) → Stored l from from h l
stored_none l from h = record { ahead = λ i h. refl; among = λ i a b. absurd (omega arith); behind = λ i h. refl }

-- a part written over: its colours stand there from its first place on
pub stored_part : (l : List ℕ) (from to : ℕ) (m : List ℕ) {h : ℕ → ℕ} → from ≤ to → to ≤ length l → length m ≡ to - from
    → ((d : ℕ) → d < to - from → get_or m d 0 ≡ h (from + d)) → Stored l from to h (put_mid from (to - from) l m)
stored_part l from to m {h = h} a b n q =
    record {
      ahead = λ i u. search (rules, places);
      among = λ i u v. (let e : from + (i - from) ≡ i = omega arith in let r : get_or (put_mid from (to - from) l m) i 0 ≡ get_or m (i - from) 0 = search (rules, places) in r ∙ q (i - from) (omega arith) ∙ ap h e);
      behind = λ i u. search (rules, places);
    }

-- a colour at every place of a part
pub stored_filled : (l : List ℕ) (from to colour : ℕ) (m : List ℕ) → from ≤ to → to ≤ length l → m ≡ replicate (length (take (to - from) (drop from l))) colour
    → Stored l from to (plain colour) (put_mid from (to - from) l m)
stored_filled l from to colour m a b e =
    let n : length (take (to - from) (drop from l)) ≡ to - from = search (rules, places) in
    record {
      ahead = λ i h. rw (e, n) (search (rules, places));
      among = λ i h k. rw (e, n) (search (rules, places));
      behind = λ i h. rw (e, n) (search (rules, places));
    }

-- one place more
pub stored_more : {before after : List ℕ} {from i colour : ℕ} {h : ℕ → ℕ} → from ≤ i → i < length after → colour ≡ h i
    → Stored before from i h after → Stored before from (i + 1) h (set after i colour)
stored_more {after = after} {i = i} {colour = colour} {h = h} a l q s = record {
  ahead = λ j g. get_or-set_other after i j colour 0 (λ e. omega arith) ∙ s.ahead j g;
  among = λ j g k. elim (dec_lt j i) [
    | yes m ↦ get_or-set_other after i j colour 0 (λ e. omega arith) ∙ s.among j g m
    | no m ↦ let e : j ≡ i = omega arith in rw e (get_or-set_same after i colour 0 l ∙ q)
  ];
  behind = λ j g. get_or-set_other after i j colour 0 (λ e. omega arith) ∙ s.behind j (omega arith);
}

-- the places up to the next more, all of one colour
pub stored_run : {before mid after : List ℕ} {from place next colour : ℕ} {h : ℕ → ℕ} → from ≤ place → place ≤ next
    → ((i : ℕ) → place ≤ i → i < next → h i ≡ colour)
    → Stored before from place h mid → Stored mid place next (plain colour) after → Stored before from next h after
stored_run {place = place} a b q s t = record {
  ahead = λ i g. t.ahead i (omega arith) ∙ s.ahead i g;
  among = λ i g k. elim (dec_lt i place) [
    | yes m ↦ t.ahead i m ∙ s.among i g m
    | no m ↦ t.among i (omega arith) k ∙ sym (q i (omega arith) k)
  ];
  behind = λ i g. t.behind i g ∙ s.behind i (omega arith);
}

-- the same colours, said in another way
pub stored_as : {before after : List ℕ} {from to : ℕ} {g h : ℕ → ℕ} → ((i : ℕ) → from ≤ i → i < to → g i ≡ h i)
    → Stored before from to g after → Stored before from to h after
stored_as q s = record { ahead = s.ahead; among = λ i a b. s.among i a b ∙ q i a b; behind = s.behind }
