-- `pbm::header::header_of` meets its contract. The height is sought where the width ends. Both are counted to 33 only, which is enough to
-- tell whether they are equal and a side.
use Rattle.std.proofs.Common.{sym, ap, ◌∙◌, arith}
use Rattle.pbm.specs.Reading.{is_field, field, past_field, at_width, at_height, size_of_side, past_blank}
use Rattle.pbm.specs.Steps.{capped}
use Rattle.pbm.specs.Laws.Header.{plain_prefix, no_plain, no_width, no_height, no_size, all-header, size-capped, has_size, same_number}
use Rattle.pbm.proofs.header.header_of.Goals as goal

pub returns-in_err-fields : goal.returns-in_err-fields
returns-in_err-fields c = rw c.from_residual.ensures (no_plain _ (sym (plain_prefix _) ∙ c.in_err-fields.ensures.cases))

pub returns-in_err-width : goal.returns-in_err-width
returns-in_err-width c = rw c.from_residual-in_err-width.ensures (no_width _ (sym (ap is_field c.in_ok-fields.ensures.cases.1) ∙ c.in_err-width.ensures))

pub returns-in_err-height : goal.returns-in_err-height
returns-in_err-height c =
    let e = c.in_ok-width.ensures.2 ∙ ap past_field c.in_ok-fields.ensures.cases.1 in
    rw c.from_residual-in_err-height.ensures (no_height _ (sym (ap is_field e) ∙ c.in_err-height.ensures))

pub returns-in_err-value : goal.returns-in_err-value
returns-in_err-value c =
    let e = c.in_ok-width.ensures.1 ∙ ap (λ t. capped (field t)) c.in_ok-fields.ensures.cases.1 in
    rw c.from_residual-in_err-value.ensures (no_size _ (sym (ap size_of_side e ∙ size-capped _) ∙ c.in_err-value.ensures))

pub returns : goal.returns
returns c =
    let t = c.args.text.now in
    let f = c.in_ok-fields.ensures.cases in
    let w = rw f.1 at c.in_ok-width.ensures in
    let h = rw w.2 at c.in_ok-height.ensures in
    let v = c.in_ok-value.ensures in
    let s = v.0 ∙ ap size_of_side w.1 ∙ size-capped _ in
    let z = has_size (field (at_width t)) (λ e. omega (arith, s, v.1)) in (
      all-header t (sym (plain_prefix t) ∙ f.0) w.0 h.0 z.0 (same_number (field (at_height t)) (field (at_width t)) (omega (arith, h.1, w.1)) z.1),
      s,
      c.in_ok-rest.ensures.1 ∙ ap past_blank h.2,
    )
