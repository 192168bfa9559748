-- Which answer placing may give, and when, in exact numbers: one line for each refusal of the paper's table, in the paper's order, and
-- one for what is given.
use Rattle.std.specs.Prelude.{◌≡◌, ℕ, ◌+◌, ◌*◌, ◌≤◌, true, false, ℤ, pos, ◌-ℤ◌, ◌*ℤ◌, ◌<ℤ◌, ◌≢◌, Float}
use Rattle.std.specs.Float.{nan, inf, fin}
use Rattle.std.specs.Float.Ieee.{up, down}
use Rattle.refusal.specs.Rules as rule
use Rattle.refusal.specs.Answer.{Answer, gives, refuses}
use Rattle.place.specs.Placing.{farthest, signed, far}
use Rattle.place.specs.declared.Ground.{Ground}
use Rattle.place.specs.declared.Place.{Place}
use Rattle.place.specs.declared.Place.TheVariants.{Cells, OnGround}
use Rattle.place.specs.declared.Shift.{Shift}

-- x is z 1024ths and within the limit: x is m * up e / down e, that is n / 1024 with n whole, and z is n with x's sign
abbrev pub Is : Float → ℤ → Type 0
Is nan z = ⊥
Is (inf s) z = ⊥
Is (fin s m e) z = (n : ℕ) × (z ≡ signed s n) × (m * up e * 1024 ≡ n * down e) × (m * up e ≤ farthest * down e)

-- a reference's north, east and cell side are n, e and c 1024ths
pub record Reads (g : Ground) (n e c : ℤ) : Type 0 where
  pub north : Is g.north n
  pub east : Is g.east e
  pub cell : Is g.cell c
  pub above : pos 0 <ℤ c

-- number k of a reference is the first that is not usable
pub data FirstUnusable (g : Ground) : ℕ → Type 0 where
  north : ((z : ℤ) → Is g.north z → ⊥) → FirstUnusable g 0
  east : (n : ℤ) → Is g.north n → ((z : ℤ) → Is g.east z → ⊥) → FirstUnusable g 1
  cell : (n e : ℤ) → Is g.north n → Is g.east e → ((z : ℤ) → Is g.cell z → pos 0 <ℤ z → ⊥) → FirstUnusable g 2

-- a place in cells: 2
pub data InCells (dy dx : ℤ) : Answer Shift → Type 0 where
  row : far dy ≡ true → InCells dy dx (refuses rule.offset 0)
  column : far dy ≡ false → far dx ≡ true → InCells dy dx (refuses rule.offset 1)
  right : far dy ≡ false → far dx ≡ false → InCells dy dx (gives (record { dy = dy; dx = dx }))

-- a place on the ground: 6, 7, 8, and then as a place in cells, where dy and dx times the cell side are the differences
pub data OnTheGround (a b : Ground) : Answer Shift → Type 0 where
  first : {k : ℕ} → FirstUnusable a k → OnTheGround a b (refuses rule.ground_number k)
  second : {n1 e1 c1 : ℤ} {k : ℕ} → Reads a n1 e1 c1 → FirstUnusable b k → OnTheGround a b (refuses rule.ground_number (k + 3))
  sides : {n1 e1 c1 n2 e2 c2 : ℤ} → Reads a n1 e1 c1 → Reads b n2 e2 c2 → (c1 ≢ c2) → OnTheGround a b (refuses rule.cell_sides 0)
  rows : {n1 e1 n2 e2 c : ℤ} → Reads a n1 e1 c → Reads b n2 e2 c → ((q : ℤ) → q *ℤ c ≢ n1 -ℤ n2) → OnTheGround a b (refuses rule.part_of_a_cell 0)
  columns : {n1 e1 n2 e2 c : ℤ} (dy : ℤ) → Reads a n1 e1 c → Reads b n2 e2 c → dy *ℤ c ≡ n1 -ℤ n2 → ((q : ℤ) → q *ℤ c ≢ e2 -ℤ e1)
      → OnTheGround a b (refuses rule.part_of_a_cell 1)
  whole : {n1 e1 n2 e2 c dy dx : ℤ} {answer : Answer Shift} → Reads a n1 e1 c → Reads b n2 e2 c → dy *ℤ c ≡ n1 -ℤ n2 → dx *ℤ c ≡ e2 -ℤ e1
      → InCells dy dx answer → OnTheGround a b answer

abbrev pub Places : Place → Answer Shift → Type 0
Places (Cells dy dx) answer = InCells dy dx answer
Places (OnGround a b) answer = OnTheGround a b answer

-- the second map lies dy rows and dx columns from the first: those times the cell side are the differences of the corners
pub record Lies (a b : Ground) (dy dx : ℤ) : Type 0 where
  pub north1 : ℤ
  pub east1 : ℤ
  pub north2 : ℤ
  pub east2 : ℤ
  pub cell : ℤ
  pub first : Reads a north1 east1 cell
  pub second : Reads b north2 east2 cell
  pub rows : dy *ℤ cell ≡ north1 -ℤ north2
  pub columns : dx *ℤ cell ≡ east2 -ℤ east1
  pub rows_near : far dy ≡ false
  pub columns_near : far dx ≡ false
