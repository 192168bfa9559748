-- `place::measured` meets its contract: past the tests, the readings pick the definition's case.
use Rattle.std.proofs.Common.{◌≡◌, true, Some, None, ◌-ℤ◌, rules}
use Rattle.place.specs.Placing.{exact, same}
use Rattle.place.specs.Laws.Integers.{same_yes, columns_split, shifted}
use Rattle.place.proofs.measured.Goals as goal

pub returns-in_err-dx : goal.returns-in_err-dx
returns-in_err-dx c =
    let a = c.args.a in
    let b = c.args.b in
    let s : same a.cell b.cell ≡ true = search (rules, same_yes) in
    let dy : exact (a.north -ℤ b.north) a.cell ≡ Some c.in_ok-dy.dy = search rules in
    let dx : exact (b.east -ℤ a.east) a.cell ≡ None = search rules in
    let e = columns_split a b s _ dy dx in
    search rules

pub returns : goal.returns
returns c =
    let a = c.args.a in
    let b = c.args.b in
    let s : same a.cell b.cell ≡ true = search (rules, same_yes) in
    let dy : exact (a.north -ℤ b.north) a.cell ≡ Some c.in_ok-dy.dy = search rules in
    let dx : exact (b.east -ℤ a.east) a.cell ≡ Some c.in_ok-dx.dx = search rules in
    let e = shifted a b s _ _ dy dx in
    search rules
