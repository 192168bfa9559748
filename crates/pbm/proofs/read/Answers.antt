-- `pbm::read` meets its contract: at each answer, the tests that led there pick the definition's case.
use Rattle.std.proofs.Common.{◌≡◌, ◌^◌, ◌-◌, Some, Err, Result, length, refl, sym, ap, ◌∙◌, arith}
use Rattle.std.proofs.lemmas.List.{length-map}
use Rattle.std.proofs.lemmas.List.Edits.{sets}
use Rattle.std.proofs.lemmas.Result.{err_from_is_err_and}
use Rattle.refusal.specs.Answer.{gives}
use Rattle.refusal.specs.declared.Refusal.{Refusal}
use Rattle.pbm.specs.declared.header.Read.{Read}
use Rattle.refusal.specs.declared.Refusal.TheVariants.{PictureText}
use Rattle.pbm.specs.Bytes.{zero_digit}
use Rattle.pbm.specs.Reading.{at_cells, size, cells, cell_bytes, only_cells}
use Rattle.pbm.specs.Laws.Picture.{too_long, no_header, not_only_cells, not_so_many, reads_picture}
use Rattle.pbm.specs.Steps.{Headed}
use Rattle.pbm.specs.Laws.Header.{header-all, few_cells}
use Rattle.shortest.specs.Laws.Stores.{sets_front}
use Rattle.pbm.proofs.read.Goals.{then-not-only_cells-via-then-not-only_cells, then-not-only_cells-via-else-not-only_cells+then-count-area, In_ok-header}
use Rattle.pbm.proofs.read.Goals as goal

pub returns-then-text-gt-LONGEST : goal.returns-then-text-gt-LONGEST
returns-then-text-gt-LONGEST c = rw (too_long _ c.if-text-gt-LONGEST.true) (record { answered = refl; left = refl })

same_error : (x y : Refusal) → ◌≡◌ {A = Result Read Refusal} (Err x) (Err y) → x ≡ y
same_error x y e = cc

pub returns-in_err-header : goal.returns-in_err-header
returns-in_err-header c =
    let h = c.in_err-header.ensures in
    let e = no_header _ c.if-text-gt-LONGEST.false (rw h.ok_part at c.header_of.ensures) in
    let p = err_from_is_err_and c.from_residual.result c.from_residual.ensures.1 in
    let k : p.0 ≡ PictureText = p.2 ∙ same_error _ _ (rw h.ok_part at h.value) in
    rw (e, p.1, k) (record { answered = refl; left = refl })

-- the header that was found
heads : (c : In_ok-header) → Headed c.args.text.now (Some c.in_ok-header.header)
heads c = rw c.in_ok-header.ensures.ok_part at c.header_of.ensures

-- what is counted are the cells
all : (c : In_ok-header) → length (cells (at_cells c.args.text.now)) ≡ length (cell_bytes c.in_ok-header.header.rest.now)
all c = length-map _ _ ∙ ap (λ t. length (cell_bytes t)) (sym (heads c).2)

pub area-requires : goal.area-requires
area-requires c = let h = heads (goal.at.area-requires c).In_ok-header in omega (arith, h.1, (header-all _ h.0).sized)

pub returns-then-not-only_cells : goal.returns-then-not-only_cells
returns-then-not-only_cells c =
    let s = c.if-text-gt-LONGEST.false in
    let h = heads (goal.at.returns-then-not-only_cells c).In_ok-header in
    let a = all (goal.at.returns-then-not-only_cells c).In_ok-header in
    elim c.then-not-only_cells.branch [
      | then-not-only_cells-via-then-not-only_cells w ↦ rw (not_only_cells _ s h.0 (sym (ap only_cells h.2) ∙ sym w.if-not-only_cells.ensures)) (record { answered = refl; left = refl })
      | then-not-only_cells-via-else-not-only_cells+then-count-area w ↦
          let f = λ (e : length (cells (at_cells c.args.text.now)) ≡ 4 ^ size c.args.text.now). w.if-count-area.true (w.count.ensures ∙ sym a ∙ e ∙ ap (λ n. 4 ^ n) (sym h.1) ∙ sym w.area.ensures.is) in
          rw (not_so_many _ s h.0 (sym (ap only_cells h.2) ∙ sym w.if-not-only_cells.ensures) f) (record { answered = refl; left = refl })
    ]

pub put-requires-clause-room : goal.put-requires-clause-room
put-requires-clause-room c =
    let n = c.in_ok-header.header.value in
    let h = heads (goal.at.put-requires-clause-room c).In_ok-header in
    let a = length-map (cell_bytes c.in_ok-header.header.rest.now) (λ b. b - zero_digit) in
    omega (arith, a, c.count.ensures, c.if-count-area.false, c.area.ensures.is, few_cells n (omega (arith, h.1, (header-all _ h.0).sized)), c.well_formed)

pub returns : goal.returns
returns c =
    let t = c.args.text.now in
    let h = heads (goal.at.returns c).In_ok-header in
    let a = all (goal.at.returns c).In_ok-header in
    let n : length (cells (at_cells t)) ≡ 4 ^ size t = a ∙ sym c.count.ensures ∙ c.if-count-area.false ∙ c.area.ensures.is ∙ ap (λ n. 4 ^ n) h.1 in
    rw (reads_picture t c.if-text-gt-LONGEST.false h.0 (sym (ap only_cells h.2) ∙ sym c.if-not-only_cells.ensures) n) (record {
      answered = ap gives h.1;
      left = c.put.ensures ∙ ap (λ r. sets c.args.cells.now 0 (cells r)) h.2 ∙ sets_front (cells (at_cells t)) c.args.cells.now (omega (arith, n, few_cells (size t) (header-all t h.0).sized, c.well_formed));
    })
