-- What follows from a list's being the shortest, and from what comes of a call: of no room, of the memory.
use Rattle.std.specs.Prelude.{◌≡◌, refl, List, [], ◌∷◌, ◌++◌, ℕ, ◌<◌, ◌≤◌, length, drop}
use Rattle.std.proofs.Common.{ap, ◌∙◌, arith}
use Rattle.refusal.specs.Rules as rule
use Rattle.refusal.specs.Answer.{gives, refuses}
use Rattle.tiling.specs.Map.{limit}
use Rattle.shortest.specs.Demand.{IsShortest, NoRoom}
use Rattle.shortest.specs.Outcome.{Outcome, left}

-- ---- no room
pub no_room_lem : (f : ℕ → ℕ) (n space : ℕ) (l : List ℕ) → IsShortest f n l → space < length l → NoRoom f n space (length l)
no_room_lem f n space l i h = record {
  list = l;
  formed = i.formed;
  shows = i.shows;
  long = refl;
  none_shorter = i.least;
  none_fits = λ other g s. omega (arith, i.least other g s);
}

-- what an outcome tells: of a list, that it is the shortest; of no room, that there is none
abbrev pub Told : (ℕ → ℕ) → ℕ → ℕ → Outcome → Type 0
Told f n space (gives l) = (n ≤ limit) × IsShortest f n l
Told f n space (refuses r k) = r ≡ rule.no_room → NoRoom f n space k

-- ---- the memory lent
drop_past : (l old : List ℕ) → drop (length l) (l ++ old) ≡ old
drop_past [] old = refl
drop_past (w ∷ ws) old = drop_past ws old

pub refused_keeps : (x : Outcome) (r k : ℕ) (old : List ℕ) → x ≡ refuses r k → left x old ≡ old
refused_keeps x r k old e = ap (λ (y : Outcome). left y old) e

pub given_keeps : (x : Outcome) (l old : List ℕ) → x ≡ gives l → drop (length l) (left x old) ≡ drop (length l) old
given_keeps x l old e = ap (λ (y : Outcome). drop (length l) (left y old)) e ∙ drop_past l (drop (length l) old)
