-- `lookups::neighbour` meets its contract: the row and the column are those one side away, and pick the definition's case.
use Rattle.std.proofs.Math.Path.{◌≡◌}
use Rattle.std.proofs.Common.{rules}
use Rattle.morton.specs.Laws.Cell.{gathered-lt}
use Rattle.lookups.specs.Neighbour.{row_away, column_away}
use Rattle.lookups.specs.Laws.Away.{south_once, east_once, once_le}
use Rattle.lookups.specs.Laws.Ways.{neighbour-outside, neighbour_gives}
use Rattle.lookups.proofs.neighbours.neighbour.Goals as goal

pub stepped-row-requires : goal.stepped-row-requires
stepped-row-requires c = let south = once_le _ (south_once c.args.direction) in search (rules, gathered-lt)

pub stepped-column-requires : goal.stepped-column-requires
stepped-column-requires c = let east = once_le _ (east_once c.args.direction) in search (rules, gathered-lt)

pub returns-then-not-inside : goal.returns-then-not-inside
returns-then-not-inside c =
    let a = c.args in
    let row : c.stepped-row.result ≡ row_away a.code a.level a.direction = search rules in
    let column : c.stepped-column.result ≡ column_away a.code a.level a.direction = search rules in
    search (rules, neighbour-outside)

pub returns : goal.returns
returns c =
    let a = c.args in
    let row : c.stepped-row.result ≡ row_away a.code a.level a.direction = search rules in
    let column : c.stepped-column.result ≡ column_away a.code a.level a.direction = search rules in
    search (rules, neighbour_gives)
