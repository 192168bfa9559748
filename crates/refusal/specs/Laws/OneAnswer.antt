-- An answer is known by what the paper has of it.
use Rattle.std.specs.Prelude.{◌≡◌, ℕ, cond, eqb, Result, Ok, Err, refl}
use Rattle.std.proofs.Common.{sym, ap, ◌∙◌}
use Rattle.refusal.specs.Answer.{Answer, gives, refuses}
use Rattle.refusal.specs.Read.{rule_of, number_of, answered}
use Rattle.refusal.specs.declared.Refusal.{Refusal}
use Rattle.refusal.specs.declared.Refusal.TheVariants.{Size, Offset, FirstList, SecondList, NoRoom, GroundNumber, CellSides, PartOfACell, Outside, RasterLength, PictureText, BlockAddress}

as_refusal : ℕ → ℕ → Refusal
as_refusal r k =
    cond (eqb r 1) (Size k) (
    cond (eqb r 2) (Offset k) (
    cond (eqb r 3) (FirstList k) (
    cond (eqb r 4) (SecondList k) (
    cond (eqb r 5) (NoRoom k) (
    cond (eqb r 6) (GroundNumber k) (
    cond (eqb r 7) CellSides (
    cond (eqb r 8) (PartOfACell k) (
    cond (eqb r 9) Outside (
    cond (eqb r 10) RasterLength (
    cond (eqb r 11) PictureText (
    BlockAddress)))))))))))

refusal_back : (r : Refusal) → as_refusal (rule_of r) (number_of r) ≡ r
unfolding as_refusal
refusal_back (Size k) = refl
refusal_back (Offset k) = refl
refusal_back (FirstList k) = refl
refusal_back (SecondList k) = refl
refusal_back (NoRoom k) = refl
refusal_back (GroundNumber k) = refl
refusal_back CellSides = refl
refusal_back (PartOfACell k) = refl
refusal_back Outside = refl
refusal_back RasterLength = refl
refusal_back PictureText = refl
refusal_back BlockAddress = refl

as_result : {A : Type 0} → Answer A → Result A Refusal
as_result (gives x) = Ok x
as_result (refuses r k) = Err (as_refusal r k)

result_back : {A : Type 0} (r : Result A Refusal) → as_result (answered r) ≡ r
unfolding as_result
result_back (Ok x) = refl
result_back (Err r) = ap Err (refusal_back r)

pub one_answer : {A : Type 0} (a : Answer A) (r s : Result A Refusal) → answered r ≡ a → answered s ≡ a → r ≡ s
one_answer a r s p q = sym (result_back r) ∙ ap as_result (p ∙ sym q) ∙ result_back s
