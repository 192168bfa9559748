-- The blocks of a tile: its cells, and the quarters of a block.
use Rattle.std.specs.Prelude.{◌≡◌, List, ℕ, suc, ◌+◌, ◌-◌, ◌*◌, ◌^◌, ◌<◌, ◌≤◌, length, get_or}
use Rattle.std.proofs.Common.{sym, ap, ◌∙◌, arith}
use Rattle.std.proofs.Math.Nat.{pow-succ'}
use Rattle.std.specs.List.{AllWithin, between}
use Rattle.std.proofs.lemmas.List.Edits.{length-between, get_or-between}
use Rattle.morton.specs.Power.{highest}
use Rattle.morton.specs.Laws.Power.{four_le}
use Rattle.tiling.specs.Leaf.{colours}
use Rattle.shortest.specs.Part.{part}
use Rattle.shortest.specs.Laws.Part.{part_one}
use Rattle.shortest.specs.Laws.Flat.{Flat}
use Rattle.shortest.proofs.Flat.{flat_uniform}
use Rattle.shortest.specs.Laws.Power.{pow_pos}
use Rattle.tiles.specs.Listing.{spots, Counts}

-- bytes are colours
pub coloured : (tile : List ℕ) (first : ℕ) → ((j : ℕ) → get_or tile j 0 < colours) → (j : ℕ) → spots tile first j < colours
coloured tile first bytes j = bytes (j - first)

-- the quarters of a block of more than four cells, of area q
pub record Four (first k L q : ℕ) : Type 0 where
  pub nw : Counts first k L
  pub ne : Counts first (k + q) L
  pub sw : Counts first (k + 2 * q) L
  pub se : Counts first (k + 3 * q) L
  pub codes : k + 4 * q ≤ 4 ^ highest

pub four : (first k level q : ℕ) → 1 < level → q ≡ 4 ^ (level - 1) → Counts first k level → Four first k (level - 1) q
four first k level q m e c =
    let s : 4 ^ level ≡ 4 * 4 ^ (level - 1) = (let u : level ≡ suc (level - 1) = omega (arith, c.some) in ap (λ (n : ℕ). 4 ^ n) u ∙ pow-succ' 4 (level - 1)) in
    let l : 0 < level - 1 = omega (arith, m) in
    let f = c.from in
    let t = c.to in
    let z = c.small in
    record {
      nw = record { some = l; from = f; to = omega arith; small = z };
      ne = record { some = l; from = omega arith; to = omega arith; small = z };
      sw = record { some = l; from = omega arith; to = omega arith; small = z };
      se = record { some = l; from = omega arith; to = omega arith; small = z };
      codes = omega arith;
    }

-- a part of a tile in which all is of one colour
pub all_flat : (tile : List ℕ) (first k level from to colour : ℕ) → length tile ≡ 256 → Counts first k level → from ≡ k - first → to ≡ from + 4 ^ level
    → colour ≡ get_or tile from 0 → AllWithin (λ (x : ℕ). x ≡ colour) (between from to tile) 0 (length (between from to tile))
    → Flat (spots tile first) (spots tile first k) level k
all_flat tile first k level from to colour w c ef et ec h j lo hi =
    let a = c.from in
    let b = c.to in
    let n : length (between from to tile) ≡ to - from = length-between tile from to (omega arith) in
    let e : j - first ≡ from + (j - k) = omega arith in
    ap (λ (x : ℕ). get_or tile x 0) e
    ∙ sym (get_or-between tile from to (j - k) 0 (omega arith))
    ∙ h (j - k) 0 (omega arith) (omega arith)
    ∙ ec
    ∙ ap (λ (x : ℕ). get_or tile x 0) ef

-- a block of a tile is small
pub low : (first k level : ℕ) → Counts first k level → level ≤ 4
low first k level c = four_le level 4 (omega (arith, c.from, c.to))

-- it lies within the largest square
pub block_fits : (first k level : ℕ) → Counts first k level → (level ≤ highest) × (k + 4 ^ level ≤ 4 ^ highest)
block_fits first k level c = (omega (arith, low first k level c), omega (arith, c.to, c.small))

-- and so do four cells
pub four_fit : (first k level : ℕ) → Counts first k level → level ≡ 1 → k + 4 ≤ 4 ^ highest
four_fit first k level c one = omega (arith, c.to, c.small, ap (λ (n : ℕ). 4 ^ n) one)

-- its first cell is the tile's
pub first_in : (first k level : ℕ) → Counts first k level → k < first + 256
first_in first k level c = omega (arith, c.to, pow_pos level)

-- cells that are all alike come to their colour
pub flat_part : (f : ℕ → ℕ) (L k : ℕ) → Flat f (f k) L k → f k ≡ part f L k
flat_part f L k h = sym (part_one f L k (flat_uniform f (f k) L k h))
