-- The cells of a list that shows a picture.
use Rattle.std.specs.Prelude.{◌≡◌, List, ℕ, ◌^◌, ◌<◌, ◌≤◌, pos}
use Rattle.std.proofs.Common.{arith, pow_mono, lt-ltb}
use Rattle.morton.specs.Code.{code}
use Rattle.morton.specs.Laws.Code.{code_inside}
use Rattle.tiling.specs.Map.{limit, colour_in}
use Rattle.shortest.specs.Demand.{IsShortest}

pub shown_at : (f : ℕ → ℕ) (n : ℕ) (l : List ℕ) → n ≤ limit → IsShortest f n l → (y x : ℕ) → y < 2 ^ n → x < 2 ^ n → colour_in n l (pos y) (pos x) ≡ f (code y x)
unfolding colour_in
shown_at f n l low i y x hy hx = rw (lt-ltb y (2 ^ n) hy, lt-ltb x (2 ^ n) hx) (i.shows (code y x) (code_inside n y x (omega arith) hy hx))

pub cell_bits : (n y : ℕ) → n ≤ limit → y < 2 ^ n → y < 2 ^ 16
cell_bits n y low h = let q : 2 ^ n ≤ 2 ^ 12 = pow_mono low in omega arith
