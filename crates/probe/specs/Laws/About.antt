-- A square about a map: wholly beyond it, across its rim, or within it.
use Rattle.std.specs.Prelude.{◌≡◌, refl, Bool, true, false, ◌||◌, ◌⊎◌, List, ℕ, zero, suc, ◌+◌, ◌-◌, ◌^◌, ◌<◌, ◌≤◌, ltb}
use Rattle.std.proofs.Common.{◌∙◌, inl, inr, ⊎_elim, arith, lt-ltb, le-ltb, le-leb, leb-true, leb-false, ltb-true, ltb-false}
use Rattle.std.proofs.Math.Bool.{and-false}
use Rattle.std.proofs.lemmas.Bool.{lt-leb}
use Rattle.tiling.specs.Map.{beyond}
use Rattle.tiling.specs.Laws.Tests.{or_either, or_neither}
use Rattle.probe.specs.Seen.{Shows, Tells, Holds}
use Rattle.probe.specs.declared.seen.Seen.{Seen}
use Rattle.probe.specs.declared.seen.Seen.TheVariants.{One, Mixed}
use Rattle.probe.specs.Biased.{bias, within_b, beyondb, cell_about}
use Rattle.probe.specs.Asked.{cell_at, Within}

-- what is told is known from then on
pub tells_holds : (g : ℕ → ℕ → ℕ) (row column level : ℕ) (s : Seen) → Tells g row column level s → Holds g row column level s
tells_holds g row column level (One c) h = h
tells_holds g row column level (Mixed p) h = tt

-- ---- where a square lies, by the tests of its first row and column, and its last

-- rows or columns before the map's, past them, or among them
before : (n v s i : ℕ) → v + s ≤ bias → i < s → within_b n (v + i) ≡ false
before n v s i h l = rw (lt-leb bias (v + i) (omega arith))

past : (n v i : ℕ) → bias + 2 ^ n ≤ v → within_b n (v + i) ≡ false
past n v i h = rw (le-ltb (v + i) (bias + 2 ^ n) (omega arith), and-false)

among : (n v s i : ℕ) → bias ≤ v → v + s ≤ bias + 2 ^ n → i < s → within_b n (v + i) ≡ true
among n v s i a b l = rw (le-leb bias (v + i) (omega arith), lt-ltb (v + i) (bias + 2 ^ n) (omega arith))

-- the test, of a square of the side s and a map whose rows and columns end at e, that is put to one that is not wholly beyond the map
abbrev pub rimb : ℕ → ℕ → ℕ → ℕ → Bool
rimb row column s e = ltb row bias || ltb column bias || ltb e (row + s) || ltb e (column + s)

-- what two disjunctions of four tell
four_either : (a b c d : Bool) → (a || b || c || d) ≡ true → (a ≡ true) ⊎ ((b ≡ true) ⊎ ((c ≡ true) ⊎ (d ≡ true)))
four_either a b c d h =
    ⊎_elim (λ abc. ⊎_elim (λ ab. ⊎_elim inl (λ x. inr (inl x)) (or_either a b ab)) (λ x. inr (inr (inl x))) (or_either (a || b) c abc))
    (λ x. inr (inr (inr x))) (or_either (a || b || c) d h)

four_neither : (a b c d : Bool) → (a || b || c || d) ≡ false → (a ≡ false) × (b ≡ false) × (c ≡ false) × (d ≡ false)
four_neither a b c d h =
    let x = or_neither (a || b || c) d h in
    let y = or_neither (a || b) c x.0 in
    let z = or_neither a b y.0 in
    (z.0, z.1, y.1, x.1)

-- past the tests: it reaches past where the map begins and begins before the map ends; or it lies within the map
pub apart_bounds : (row column s e : ℕ) → beyondb row column s e ≡ false → (bias < row + s) × (bias < column + s) × (row < e) × (column < e)
apart_bounds row column s e h =
    let o = four_neither _ _ _ _ h in
    (leb-false _ _ o.0, leb-false _ _ o.1, leb-false _ _ o.2, leb-false _ _ o.3)

pub inner_bounds : (row column s e : ℕ) → rimb row column s e ≡ false → (bias ≤ row) × (bias ≤ column) × (row + s ≤ e) × (column + s ≤ e)
inner_bounds row column s e h =
    let o = four_neither _ _ _ _ h in
    (ltb-false _ _ o.0, ltb-false _ _ o.1, ltb-false _ _ o.2, ltb-false _ _ o.3)

-- a cell of a square of the side s that lies within the map
pub inner_cell : (n : ℕ) (l : List ℕ) (row column s : ℕ) → bias ≤ row → bias ≤ column → row + s ≤ bias + 2 ^ n → column + s ≤ bias + 2 ^ n
    → (i j : ℕ) → i < s → j < s → cell_about n l (row + i) (column + j) ≡ cell_at l (row - bias + i) (column - bias + j)
unfolding cell_about
inner_cell n l row column s a b c d i j hi hj =
    let er : row + i - bias ≡ row - bias + i = omega arith in
    let ec : column + j - bias ≡ column - bias + j = omega arith in
    rw (among n row s i a c hi, among n column s j b d hj, er, ec) refl

-- a square of more than one cell
many : (level : ℕ) → 1 < 2 ^ level → 0 < level
many zero h = absurd (omega arith)
many (suc level) h = omega arith

module _ (n : ℕ) (l : List ℕ) (row column level : ℕ) where
  beyond-rows : ((i : ℕ) → i < 2 ^ level → within_b n (row + i) ≡ false) → Shows (cell_about n l) row column level beyond
  unfolding cell_about
  beyond-rows h = record { each = λ i j hi hj. rw (h i hi) }

  beyond_columns : ((j : ℕ) → j < 2 ^ level → within_b n (column + j) ≡ false) → Shows (cell_about n l) row column level beyond
  unfolding cell_about
  beyond_columns h = record { each = λ i j hi hj. rw (h j hj, and-false) }

  -- wholly beyond
  pub beyond_shows : beyondb row column (2 ^ level) (bias + 2 ^ n) ≡ true → Shows (cell_about n l) row column level beyond
  beyond_shows h =
      ⊎_elim (λ a. beyond-rows (λ i hi. before n row (2 ^ level) i (leb-true _ _ a) hi))
      (⊎_elim (λ a. beyond_columns (λ j hj. before n column (2 ^ level) j (leb-true _ _ a) hj))
      (⊎_elim (λ a. beyond-rows (λ i hi. past n row i (leb-true _ _ a)))
      (λ a. beyond_columns (λ j hj. past n column j (leb-true _ _ a)))))
      (four_either _ _ _ _ h)

  -- across the rim: more than a cell
  pub rim_many : beyondb row column (2 ^ level) (bias + 2 ^ n) ≡ false → rimb row column (2 ^ level) (bias + 2 ^ n) ≡ true → 0 < level
  rim_many apart h =
      let e : ℕ = bias + 2 ^ n in
      let b = apart_bounds row column (2 ^ level) e apart in
      ⊎_elim (λ a. many level (omega (arith, ltb-true row bias a)))
      (⊎_elim (λ a. many level (omega (arith, ltb-true column bias a)))
      (⊎_elim (λ a. many level (omega (arith, ltb-true e (row + 2 ^ level) a)))
      (λ a. many level (omega (arith, ltb-true e (column + 2 ^ level) a)))))
      (four_either (ltb row bias) (ltb column bias) (ltb e (row + 2 ^ level)) (ltb e (column + 2 ^ level)) h)

  -- within the map: the square is that at the row and the column without the bias
  module _ (inner : rimb row column (2 ^ level) (bias + 2 ^ n) ≡ false) where
    pub inner-within : Within n (row - bias) (column - bias) level
    inner-within =
        let b = inner_bounds row column (2 ^ level) (bias + 2 ^ n) inner in
        record { rows = omega arith; columns = omega arith }

    pub inner_tells : (s : Seen) → Tells (cell_at l) (row - bias) (column - bias) level s → Tells (cell_about n l) row column level s
    inner_tells (One c) t =
        let b = inner_bounds row column (2 ^ level) (bias + 2 ^ n) inner in
        record { each = λ i j hi hj. inner_cell n l row column (2 ^ level) b.0 b.1 b.2 b.3 i j hi hj ∙ t.each i j hi hj }
    inner_tells (Mixed p) t = t
