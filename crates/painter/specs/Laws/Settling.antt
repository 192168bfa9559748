-- From what is known of the two maps over a square to what the scene shows there.
use Rattle.std.specs.Prelude.{List, ℕ, ◌+◌, ◌^◌, ◌<◌}
use Rattle.std.proofs.Math.Nat.{add_assoc}
use Rattle.probe.specs.Seen.{Tells, Holds}
use Rattle.probe.specs.declared.seen.Seen.{Seen}
use Rattle.probe.specs.declared.seen.Seen.TheVariants.{One, Mixed}
use Rattle.probe.specs.Biased.{cell_about}
use Rattle.probe.specs.Laws.About.{tells_holds}
use Rattle.painter.specs.Known.{Agrees, Open, Joint}
use Rattle.painter.specs.Scene.{Scene, cell_of}

-- a map's colour at a cell of the square agrees with what is known
agrees : (g : ℕ → ℕ → ℕ) (row column level : ℕ) (k : Seen) → Holds g row column level k → (i j : ℕ) → i < 2 ^ level → j < 2 ^ level
    → Agrees k (g (row + i) (column + j))
agrees g row column level (One c) h i j hi hj = h.each i j hi hj
agrees g row column level (Mixed p) h i j hi hj = tt

module _ (s : Scene) (a b : List ℕ) (y x level : ℕ) where
  abbrev first : ℕ → ℕ → ℕ
  first = cell_about s.n a

  abbrev second : ℕ → ℕ → ℕ
  second = cell_about s.m b

  -- a colour that is settled, by whatever is known, is that of every cell
  pub early_told : (ka kb : Seen) (c : ℕ) → Holds first (s.ay + y) (s.ax + x) level ka → Holds second (s.by + y) (s.bx + x) level kb
      → Joint s.operation ka kb (One c) → Tells (cell_of s a b) y x level (One c)
  unfolding cell_of
  early_told ka kb c ha hb t = record {
    each = λ i j hi hj.
        t _ _ (rw (← add_assoc s.ay y i, ← add_assoc s.ax x j) (agrees first _ _ level ka ha i j hi hj))
        (rw (← add_assoc s.by y i, ← add_assoc s.bx x j) (agrees second _ _ level kb hb i j hi hj));
  }

  -- what is left open is no single cell
  open_many : (ka kb : Seen) → Tells first (s.ay + y) (s.ax + x) level ka → Tells second (s.by + y) (s.bx + x) level kb → Open ka kb → 0 < level
  open_many (One c) (One d) ta tb o = absurd o
  open_many (One c) (Mixed h) ta tb o = tb
  open_many (Mixed g) kb ta tb o = ta

  pub both_told : (ka kb r : Seen) → Tells first (s.ay + y) (s.ax + x) level ka → Tells second (s.by + y) (s.bx + x) level kb
      → Joint s.operation ka kb r → Tells (cell_of s a b) y x level r
  both_told ka kb (One c) ta tb t = early_told ka kb c (tells_holds _ _ _ _ ka ta) (tells_holds _ _ _ _ kb tb) t
  both_told ka kb (Mixed h) ta tb t = open_many ka kb ta tb t
