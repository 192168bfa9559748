-- A quotient without a rest, as the machine has it: both numbers are read back from their bits, and so is what is made of them.
use Rattle.std.proofs.Common.{◌≡◌, ℤ, pos, sym, ap, ap₂, ◌∙◌, w64, SFits, to_z, of_z}
use Rattle.std.specs.Prelude.{Some, ◌<ℤ◌, int_div, int_rem}
use Rattle.place.specs.Placing.{exact}
use Rattle.tiling.specs.Laws.Signed.{back}
use Rattle.place.specs.Laws.Integers.{quotient_fits, exact_yes}

pub whole_times : (z c : ℤ) → SFits w64 z → SFits w64 c → pos 0 <ℤ c → of_z w64 (int_rem (to_z w64 (of_z w64 z)) (to_z w64 (of_z w64 c))) ≡ 0
    → Some (to_z w64 (of_z w64 (int_div (to_z w64 (of_z w64 z)) (to_z w64 (of_z w64 c))))) ≡ exact z c
whole_times z c f g p e =
    ap Some (ap (λ (q : ℤ). to_z w64 (of_z w64 q)) (ap₂ int_div (back f) (back g)) ∙ back (quotient_fits z c f p))
    ∙ sym (exact_yes z c f (ap₂ (λ (a b : ℤ). of_z w64 (int_rem a b)) (sym (back f)) (sym (back g)) ∙ e))
