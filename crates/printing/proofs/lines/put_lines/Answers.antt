-- `printing::lines::put_lines` meets its contract: each line stands where the one before it ends.
use Rattle.std.proofs.Common.{◌≡◌, ◌+◌, [], ◌++◌, length, take, sym, ap, ◌∙◌, arith, length-take-le, get_or}
use Rattle.std.proofs.lemmas.List.{take_more, flat_map_more}
use Rattle.printing.specs.Lines.{line, lines}
use Rattle.printing.specs.Laws.Lines.{lines-length}
use Rattle.printing.specs.Laws.Written.{written_more, written_room}
use Rattle.printing.proofs.lines.put_lines.Goals as goal

pub put_line-at-requires : goal.put_line-at-requires
put_line-at-requires c =
    let k = c.loop-leaf in
    let i = k.leaf-index in
    let t = take i c.args.list.now in
    let h : length t ≡ i = length-take-le _ _ (omega arith) in
    let l = lines-length c.args.n t c.requires.0 in
    (c.requires.0, omega (arith, written_room k.invariant (omega (arith, l, h)), l, h))

pub loop-leaf-preserved : goal.loop-leaf-preserved
loop-leaf-preserved c =
    let n = c.args.n in
    let l = c.args.list.now in
    let i = c.loop-leaf.leaf-index in
    let e : lines n (take (i + 1) l) ≡ lines n (take i l) ++ line n (get_or l i 0) = ap (lines n) (take_more l i 0 c.loop-leaf-test.true) ∙ sym (flat_map_more (line n) [] (take i l) (get_or l i 0)) in
    rw e (written_more c.loop-leaf.invariant c.put_line-at.ensures)
