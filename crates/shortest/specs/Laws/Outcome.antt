-- The common ending of every call that writes a list: it fits and is written before the old rest, or it is refused with its length.
use Rattle.std.specs.Prelude.{◌≡◌, List, ◌++◌, ℕ, ◌^◌, ◌≤◌, ◌<◌, length, drop}
use Rattle.std.proofs.Common.{sym, ap, ◌∙◌, arith, lt-ltb, le-ltb}
use Rattle.std.proofs.Math.Nat.{pow-le-pow_right}
use Rattle.std.proofs.lemmas.List.Edits.{sets}
use Rattle.refusal.specs.Rules as rule
use Rattle.refusal.specs.Answer.{gives, refuses}
use Rattle.morton.specs.Power.{highest}
use Rattle.tiling.specs.Leaf.{colours}
use Rattle.shortest.specs.Shortest.{shortest}
use Rattle.shortest.specs.Part.{part, size_of}
use Rattle.shortest.specs.Outcome.{Outcome, fitting, written, left}
use Rattle.shortest.specs.Written.{inner, filled, Fills, Placed}
use Rattle.shortest.specs.Laws.Stores.{sets_front}
use Rattle.shortest.specs.Laws.Part.{many_size, part-size, shortest-size}
use Rattle.shortest.specs.Laws.Written.{filled-inner}

pub fitting_gives : (l : List ℕ) (space : ℕ) → length l ≤ space → fitting l space ≡ gives l
fitting_gives l space h = rw (le-ltb space (length l) h)

pub fitting_refuses : (l : List ℕ) (space : ℕ) → space < length l → fitting l space ≡ refuses rule.no_room (length l)
fitting_refuses l space h = rw (lt-ltb space (length l) h)

module _ (f : ℕ → ℕ) (coloured : (j : ℕ) → f j < colours) (n : ℕ) (low : n ≤ highest) where
  -- a list of 4 ^ n words has room for every picture
  pub always_fits : (space : ℕ) → 4 ^ n ≤ space → length (shortest f n 0) ≤ space
  always_fits space h = omega (arith, (shortest-size f n 0).1)

  few : 4 ^ n ≤ 4 ^ 15
  few = pow-le-pow_right (omega arith) low

  module _ (o : List ℕ) (fits : length (shortest f n 0) ≤ length o) where
    pub whole-placed : Placed f o 0 n 0
    whole-placed = record {
      room = λ m. omega (arith, many_size (part f n 0) m, part-size f coloured n 0);
      small = omega (arith, few);
    }

    module _ (o₁ : List ℕ) (p : ℕ) (is : p ≡ part f n 0) (kept : length o₁ ≡ length o) where
      pub whole_fills : Fills o₁ 0 p 0 n
      whole_fills = record { code = omega arith; level = low; room = omega (arith, ap size_of is, part-size f coloured n 0) }

      -- the list, and then the old rest
      pub whole-left : o₁ ≡ sets o 0 (inner f n 0) → filled o₁ 0 p 0 n ≡ shortest f n 0 ++ drop (length (shortest f n 0)) o
      whole-left wrote =
          let s : List ℕ = shortest f n 0 in
          let y : filled o₁ 0 p 0 n ≡ sets o 0 s = cc (filled-inner f coloured o 0 n 0) in
          y ∙ sets_front s o fits

  pub whole-size : (p : ℕ) → p ≡ part f n 0 → size_of p ≡ length (shortest f n 0)
  whole-size p e = ap size_of e ∙ part-size f coloured n 0

-- an outcome that is known tells the answer and what is left
pub told : {x a : Outcome} → x ≡ a → (old : List ℕ) → (written a ≡ written x) × (left a old ≡ left x old)
told e old = (sym (ap written e), sym (ap (λ y. left y old) e))
