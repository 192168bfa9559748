-- `probe::Chart::look_about` meets its contract: the square lies wholly beyond the map, or across its rim, or within it.
use Rattle.probe.proofs.square.Chart.look_about.Goals.{Else-beyond, Else-row-column}
use Rattle.std.proofs.Math.Path.{◌≡◌, ◌∙◌}
use Rattle.std.proofs.Common.{sym, false, ◌+◌, ◌^◌, ◌≤◌}
use Rattle.probe.specs.Biased.{bias, beyondb}
use Rattle.probe.specs.Laws.About.{rimb, beyond_shows, rim_many, inner_bounds, inner_tells}
use Rattle.probe.proofs.square.Chart.look_about.Goals as goal

pub returns-then-beyond : goal.returns-then-beyond
returns-then-beyond c = beyond_shows _ _ _ _ _ (sym c.beyond.ensures ∙ c.if-beyond.true)

-- past the first test the square is not wholly beyond, and past the second it is within the map
apart : (c : Else-beyond) → let q = c.args.square in beyondb q.row q.column (2 ^ q.level) (bias + 2 ^ c.args.self.now.map.n) ≡ false
apart c = sym c.beyond.ensures ∙ c.if-beyond.false

inner : (c : Else-row-column) → let q = c.args.square in rimb q.row q.column (2 ^ q.level) (bias + 2 ^ c.args.self.now.map.n) ≡ false
inner c = rw (c.side-side.ensures.is, c.side-end.ensures.is) at c.if-row-column.false

pub returns-then-row-column : goal.returns-then-row-column
returns-then-row-column c =
    rim_many c.args.self.now.map.n c.args.self.now.map.list.now _ _ _ (apart (goal.at.returns-then-row-column c).Else-beyond) (rw (c.side-side.ensures.is, c.side-end.ensures.is) at c.if-row-column.true)

bounds : (c : Else-row-column) →
    let q = c.args.square in
    let end = bias + 2 ^ c.args.self.now.map.n in
    (bias ≤ q.row) × (bias ≤ q.column) × (q.row + 2 ^ q.level ≤ end) × (q.column + 2 ^ q.level ≤ end)
bounds c = let q = c.args.square in inner_bounds q.row q.column (2 ^ q.level) (bias + 2 ^ c.args.self.now.map.n) (inner c)

pub returns : goal.returns
returns c = inner_tells _ _ _ _ _ (inner (goal.at.returns c).Else-row-column) c.look.result c.look.ensures
