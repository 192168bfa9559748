-- `printing::lines::put_numeral` meets its contract: the digits are stored, and the byte behind them.
use Rattle.std.proofs.Common.{◌≡◌, ◌∷◌, ◌++◌, suc, drop, append_assoc, [], length, take, sym, ap, ap₂, ◌∙◌, arith, length-append, length-take-le, set, drop-cons}
use Rattle.std.proofs.lemmas.List.{set_at}
use Rattle.printing.specs.Laws.Lines.{digits-length}
use Rattle.printing.specs.Lines.{digits}
use Rattle.printing.proofs.lines.put_numeral.Goals as goal

pub returns-clause-written : goal.returns-clause-written
returns-clause-written c =
    let a = c.args in
    let d = digits a.base a.count a.value in
    let l = digits-length a.base a.count a.value in
    let e : length (take a.count a.out.now) ≡ a.count = length-take-le _ _ (omega arith) in
    let o = rw e at c.put_digits.ensures in
    let s = ap₂ (λ x y. set (x ++ y) a.count a.end) o (drop-cons a.out.now a.count 0 (omega arith)) ∙ set_at d _ (drop (suc a.count) a.out.now) a.end a.count l in
    let n : length (d ++ a.end ∷ []) ≡ suc a.count = length-append d (a.end ∷ []) ∙ omega (arith, l) in
    record { counted = omega (arith, n); left = s ∙ sym (append_assoc d (a.end ∷ []) _) ∙ ap (λ k. (d ++ a.end ∷ []) ++ drop k a.out.now) (sym n) }
