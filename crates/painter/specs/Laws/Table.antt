-- The operations' table, a line for each way out of it.
use Rattle.std.specs.Prelude.{◌≡◌, refl, Bool, true, false, cond, ℕ, ◌<◌, eqb}
use Rattle.std.proofs.Common.{sym, ap₂, ◌∙◌, arith, ne_eqb}
use Rattle.tiling.specs.Leaf.{colours}
use Rattle.probe.specs.declared.seen.Seen.TheVariants.{One}
use Rattle.painter.specs.Operation.{combine}
use Rattle.painter.specs.Known.{Joint}
use Rattle.painter.specs.declared.operations.Operation.{Operation}
use Rattle.painter.specs.declared.operations.Operation.TheVariants.{Intersection, Union, Difference}

same_either : (t : Bool) (n : ℕ) → n ≡ cond t n n
same_either true n = refl
same_either false n = refl

module _ (o : Operation) (a b : ℕ) where
  pub intersection_white : o ≡ Intersection → a ≡ 0 → 0 ≡ combine o a b
  intersection_white e f = rw (e, f)

  pub intersection_else : o ≡ Intersection → (a ≡ 0 → ⊥) → b ≡ combine o a b
  intersection_else e f = rw (e, ne_eqb a 0 f)

  pub intersection_none : o ≡ Intersection → b ≡ 0 → 0 ≡ combine o a b
  intersection_none e f = rw (e, f) (same_either (eqb a 0) 0)

  pub union_white : o ≡ Union → a ≡ 0 → b ≡ combine o a b
  union_white e f = rw (e, f)

  pub union_else : o ≡ Union → (a ≡ 0 → ⊥) → a ≡ combine o a b
  union_else e f = rw (e, ne_eqb a 0 f)

  pub difference_white : o ≡ Difference → b ≡ 0 → a ≡ combine o a b
  difference_white e f = rw (e, f)

  pub difference_else : o ≡ Difference → (b ≡ 0 → ⊥) → 0 ≡ combine o a b
  difference_else e f = rw (e, ne_eqb b 0 f)

  pub difference_none : o ≡ Difference → a ≡ 0 → 0 ≡ combine o a b
  difference_none e f = rw (e, f) (same_either (eqb b 0) 0)

-- the result of two colours is a colour
pub either_lt : (t : Bool) (a b n : ℕ) → a < n → b < n → cond t a b < n
either_lt true a b n ha hb = ha
either_lt false a b n ha hb = hb

pub combine-lt : (o : Operation) (a b : ℕ) → a < colours → b < colours → combine o a b < colours
combine-lt Intersection a b ha hb = either_lt (eqb a 0) 0 b colours (omega arith) hb
combine-lt Union a b ha hb = either_lt (eqb a 0) b a colours hb ha
combine-lt Difference a b ha hb = either_lt (eqb b 0) a 0 colours ha (omega arith)

-- two colours settle theirs
pub both_known : (o : Operation) (a b r : ℕ) → r ≡ combine o a b → Joint o (One a) (One b) (One r)
both_known o a b r e p q hp hq = ap₂ (combine o) hp hq ∙ sym e
