-- Tiles from what is stored of them: a block beyond the map or within it, four blocks, and a tile that lies across four.
use Rattle.std.specs.Prelude.{◌≡◌, refl, true, ◌&&◌, List, ℕ, ◌+◌, ◌-◌, ◌%◌, ◌^◌, ◌<◌, ◌≤◌, eqb, length, get_or}
use Rattle.std.proofs.Common.{sym, ap, ap₂, ◌∙◌, arith, eqb-true}
use borrow.Rule.Slice.PartMut.{put_mid, same_len_mid, mid_len}
use Rattle.std.proofs.Math.Decide.{dec_lt}
use Rattle.morton.specs.Code.{code, row_of, column_of}
use Rattle.morton.specs.Laws.Cell.{cell_of-code}
use Rattle.morton.specs.Power.{highest}
use Rattle.tiling.specs.Map.{beyond}
use Rattle.tiling.specs.Laws.Tests.{and_both}
use Rattle.probe.specs.Seen.{Shows}
use Rattle.probe.specs.declared.seen.Seen.TheVariants.{Mixed}
use Rattle.probe.specs.Biased.{bias, beyondb, cell_about}
use Rattle.probe.specs.Laws.About.{beyond_shows}
use Rattle.tiles.specs.Tile.{Stored, Tile, Steps, step_to, plain, codes, tile_of}
use Rattle.tiles.specs.Decoding.{Aligned, About}
use Rattle.tiles.specs.Laws.Store.{stored_part, stored_as}
use Rattle.tiles.specs.Laws.Codes.{tile_cell_lem, step_small, block_cell, second_block, third_block, fourth_block, Inside, inside-cells}

-- ---- a block
module _ (n : ℕ) (l : List ℕ) (row column from : ℕ) {before after : List ℕ} where
  pub beyond_stored : beyondb row column 16 (bias + 2 ^ n) ≡ true → Stored before from (from + 256) (plain beyond) after
      → Stored before from (from + 256) (tile_of (cell_about n l) row column from) after
  beyond_stored h s = stored_as shown s
    where
      shown : (i : ℕ) → from ≤ i → i < from + 256 → beyond ≡ tile_of (cell_about n l) row column from i
      shown i a b =
          let t = tile_cell_lem (i - from) (omega arith) in
          sym ((beyond_shows n l row column 4 h).each (row_of (i - from)) (column_of (i - from)) t.0 t.1)

  pub inside_stored : n ≤ highest → Aligned n row column → Inside n row column → (k : ℕ) → k ≡ code (row - bias) (column - bias) → Stored before from (from + 256) (codes l k from) after
      → Stored before from (from + 256) (tile_of (cell_about n l) row column from) after
  inside_stored h z p k e s = stored_as (λ i a b. rw e (inside-cells n l row column h z p (i - from) (omega arith))) s

-- ---- a tile of a picture
module _ (g : ℕ → ℕ → ℕ) (row column : ℕ) where
  pub block_tile : {before after : List ℕ} → Stored before 0 256 (tile_of g row column 0) after → Tile g row column 256 after
  block_tile s = record { each = λ j h. let e : j - 0 ≡ j = omega arith in rw e at (s.among j (omega arith) h) }

  -- a cell of one of four blocks, which begins r rows down and c columns to the right, at the code k
  part_cell : (r c k : ℕ) → r < 2 ^ 15 → c < 2 ^ 15 → r % 16 ≡ 0 → c % 16 ≡ 0 → code r c ≡ k → (j : ℕ) → k ≤ j → j < k + 256
      → tile_of g (row + r) (column + c) k j ≡ g (row + row_of j) (column + column_of j)
  part_cell r c k lr lc hr hc e j a b =
      let s : k + (j - k) ≡ j = omega arith in
      let q = rw s at (block_cell r c k lr lc hr hc e (j - k) (omega arith)) in
      ap₂ g (omega arith) (omega arith)

  pub four_tile : {o₀ o₁ o₂ o₃ o₄ : List ℕ} → Stored o₀ 0 256 (tile_of g row column 0) o₁ → Stored o₁ 256 512 (tile_of g row (column + 16) 256) o₂
      → Stored o₂ 512 768 (tile_of g (row + 16) column 512) o₃ → Stored o₃ 768 1024 (tile_of g (row + 16) (column + 16) 768) o₄ → Tile g row column 1024 o₄
  four_tile {o₄ = o₄} s₀ s₁ s₂ s₃ = record { each = each }
    where
      z : (x : ℕ) → x + 0 ≡ x
      z x = omega arith

      each : (j : ℕ) → j < 1024 → get_or o₄ j 0 ≡ g (row + row_of j) (column + column_of j)
      each j h = elim (dec_lt j 256) [
        | yes a ↦ s₃.ahead j (omega arith) ∙ s₂.ahead j (omega arith) ∙ s₁.ahead j a ∙ (block_tile s₀).each j a
        | no a ↦ elim (dec_lt j 512) [
          | yes b ↦ s₃.ahead j (omega arith) ∙ s₂.ahead j b ∙ s₁.among j (omega arith) b ∙ rw z at (part_cell 0 16 256 (omega arith) (omega arith) refl refl second_block j (omega arith) (omega arith))
          | no b ↦ elim (dec_lt j 768) [
            | yes c ↦ s₃.ahead j c ∙ s₂.among j (omega arith) c ∙ rw z at (part_cell 16 0 512 (omega arith) (omega arith) refl refl third_block j (omega arith) (omega arith))
            | no c ↦ s₃.among j (omega arith) h ∙ part_cell 16 16 768 (omega arith) (omega arith) refl refl fourth_block j (omega arith) (omega arith)
          ]
        ]
      ]

  -- so four tiles that are written one after another over a list of 1,024
  module _ (l m : List ℕ) (from : ℕ) (whole : length l ≡ 1024) (fits : from + 256 ≤ 1024) (wide : length m ≡ 256) where
    w : from + 256 - from ≡ 256
    w = omega arith

    part_length : length (put_mid from 256 l m) ≡ 1024
    part_length = same_len_mid from 256 l m (wide ∙ sym (rw w at (mid_len from (from + 256) l (omega arith)))) ∙ whole

    part_tile : {r c : ℕ} → Tile g r c 256 m → Stored l from (from + 256) (tile_of g r c from) (put_mid from 256 l m)
    part_tile {r} {c} t =
        rw w at (stored_part l from (from + 256) m {h = tile_of g r c from} (omega arith) (omega arith) (omega arith) (λ d h. let z : from + d - from ≡ d = omega arith in rw z (t.each d (omega arith))))

  pub four_parts : (l m₀ m₁ m₂ m₃ : List ℕ) → length l ≡ 1024 → length m₀ ≡ 256 → length m₁ ≡ 256 → length m₂ ≡ 256 → length m₃ ≡ 256
      → Tile g row column 256 m₀ → Tile g row (column + 16) 256 m₁ → Tile g (row + 16) column 256 m₂ → Tile g (row + 16) (column + 16) 256 m₃
      → Tile g row column 1024 (put_mid 768 256 (put_mid 512 256 (put_mid 256 256 (put_mid 0 256 l m₀) m₁) m₂) m₃)
  four_parts l m₀ m₁ m₂ m₃ e n₀ n₁ n₂ n₃ t₀ t₁ t₂ t₃ =
      let e₁ = part_length l m₀ 0 e (omega arith) n₀ in
      let e₂ = part_length _ m₁ 256 e₁ (omega arith) n₁ in
      let e₃ = part_length _ m₂ 512 e₂ (omega arith) n₂ in
      four_tile (part_tile _ _ 0 e (omega arith) n₀ t₀) (part_tile _ _ 256 e₁ (omega arith) n₁ t₁) (part_tile _ _ 512 e₂ (omega arith) n₂ t₂) (part_tile _ _ 768 e₃ (omega arith) n₃ t₃)

  -- a tile of one colour
  pub known_tile : (colour : ℕ) → Shows g row column 4 colour → {before after : List ℕ} → Stored before 0 256 (plain colour) after → Tile g row column 256 after
  known_tile colour w s = record {
    each = λ j m.
        let t = tile_cell_lem j m in
        s.among j (omega arith) m ∙ sym (w.each (row_of j) (column_of j) t.0 t.1);
  }

  -- a tile that lies across four blocks
  pub gathered_tile : {four steps o : List ℕ} → Tile g (row - row % 16) (column - column % 16) 1024 four → Steps (row % 16) (column % 16) steps
      → ((j : ℕ) → j < 256 → get_or o j 0 ≡ get_or four (get_or steps j 0) 0) → Tile g row column 256 o
  gathered_tile {four = four} t s q = record {
    each = λ j h.
        let c = tile_cell_lem j h in
        let m = step_small (row % 16) (column % 16) j (omega arith) (omega arith) h in
        let b = cell_of-code (row % 16 + row_of j) (column % 16 + column_of j) (omega arith) (omega arith) in
        q j h ∙ ap (λ (x : ℕ). get_or four x 0) (s.each j h) ∙ t.each (step_to (row % 16) (column % 16) j) m ∙ ap₂ g (omega arith) (omega arith);
  }

-- ---- the blocks of a tile about a map: its own if it is aligned, else the four from the one that holds its first cell
module _ (n : ℕ) (l : List ℕ) (hint row column : ℕ) (steps : List ℕ) (a : About n l (Mixed hint) row column steps) where
  pub own_block : (eqb (row % 16) 0 && eqb (column % 16) 0) ≡ true → Aligned n row column
  own_block e =
      let b = and_both _ _ e in
      record {
        large = a.large;
        rows = eqb-true _ _ b.0;
        columns = eqb-true _ _ b.1;
        row_lt = omega (arith, a.row_lt);
        column_lt = omega (arith, a.column_lt);
      }

  pub first_block : Aligned n (row - row % 16) (column - column % 16)
  first_block = record { large = a.large; rows = omega arith; columns = omega arith; row_lt = omega (arith, a.row_lt); column_lt = omega (arith, a.column_lt) }

  pub last_block : Aligned n (row - row % 16 + 16) (column - column % 16 + 16)
  last_block = record { large = a.large; rows = omega arith; columns = omega arith; row_lt = omega (arith, a.row_lt); column_lt = omega (arith, a.column_lt) }

  pub small_steps : (j : ℕ) → j < 256 → get_or steps j 0 < 1024
  small_steps j m = rw (a.stepped.each j m) (step_small (row % 16) (column % 16) j (omega arith) (omega arith) m)
