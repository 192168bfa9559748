-- The blocks of a scene: the picture over one that shows one colour, and the quarters of one that does not.
use Rattle.std.specs.Prelude.{◌≡◌, ◌&&◌, List, ℕ, zero, suc, ◌+◌, ◌-◌, ◌*◌, ◌^◌, ◌<◌, ◌≤◌, length, get_or}
use Rattle.std.proofs.Common.{sym, ap, ap₂, ◌∙◌, arith}
use Rattle.std.proofs.Math.Nat.{pow-succ'}
use Rattle.std.proofs.lemmas.List.{get_or_past}
use Rattle.std.proofs.Math.Decide.{dec_lt}
use Rattle.morton.specs.Code.{code, row_of, column_of}
use Rattle.morton.specs.Block.{Block, Quartered}
use Rattle.morton.specs.Laws.Block.{block_cell}
use Rattle.tiling.specs.Leaf.{colours}
use Rattle.tiles.specs.Tile.{Tile}
use Rattle.tiling.specs.Map.{beyond, colour_at}
use Rattle.tiling.specs.Laws.Colour.{colour_lt}
use Rattle.probe.specs.Seen.{Shows, Holds}
use Rattle.probe.specs.declared.seen.Seen.{Seen}
use Rattle.probe.specs.declared.seen.Seen.TheVariants.{One, Mixed}
use Rattle.probe.specs.Biased.{bias, within_b, cell_about}
use Rattle.std.proofs.lemmas.List.Edits.{sets}
use Rattle.shortest.specs.Part.{part}
use Rattle.shortest.specs.Written.{inner}
use Rattle.shortest.specs.Laws.Flat.{Flat, flat_first}
use Rattle.shortest.proofs.Flat.{flat_uniform}
use Rattle.shortest.specs.Laws.Part.{part_one}
use Rattle.shortest.proofs.Written.{flat_inner}
use Rattle.painter.specs.Scene.{Scene, cell_of, picture, Knows}
use Rattle.painter.specs.Laws.Table.{either_lt, combine-lt}

-- ---- colours
about_lt : (n : ℕ) (l : List ℕ) (row column : ℕ) → cell_about n l row column < colours
unfolding cell_about
about_lt n l row column =
    either_lt (within_b n row && within_b n column) (colour_at l (code (row - bias) (column - bias))) beyond colours (colour_lt l (code (row - bias) (column - bias))) (omega arith)

cell_lt : (s : Scene) (a b : List ℕ) (y x : ℕ) → cell_of s a b y x < colours
unfolding cell_of
cell_lt s a b y x = combine-lt s.operation _ _ (about_lt s.n a _ _) (about_lt s.m b _ _)

pub coloured : (s : Scene) (a b : List ℕ) (j : ℕ) → picture s a b j < colours
unfolding picture
coloured s a b j = cell_lt s a b (row_of j) (column_of j)

-- so a tile of the scene is one of colours
pub tile_bytes : (s : Scene) (a b : List ℕ) (y x : ℕ) (cells : List ℕ) → length cells ≡ 256 → Tile (cell_of s a b) y x 256 cells → (j : ℕ) → get_or cells j 0 < colours
tile_bytes s a b y x cells w t j = elim (dec_lt j 256) [
  | yes h ↦ rw (t.each j h) (cell_lt s a b (y + row_of j) (x + column_of j))
  | no h ↦ let e : get_or cells j 0 ≡ 0 = get_or_past cells j 0 (omega arith) in omega (arith, e)
]

-- ---- a block that shows one colour

-- the cells of a block are its codes
shows_flat : (s : Scene) (a b : List ℕ) (k y x level c : ℕ) → Block k y x level → Shows (cell_of s a b) y x level c → Flat (picture s a b) c level k
unfolding picture
shows_flat s a b k y x level c h t j lo hi =
    let r : ℕ = row_of j in
    let d : ℕ = column_of j in
    let f = block_cell k y x level h j lo hi in
    let u : y + (r - y) ≡ r = omega arith in
    let v : x + (d - x) ≡ d = omega arith in
    ap₂ (cell_of s a b) (sym u) (sym v) ∙ t.each (r - y) (d - x) (omega arith) (omega arith)

-- so the block comes to that colour, and nothing is written for it
module _ (s : Scene) (a b : List ℕ) (k y x level c : ℕ) (h : Block k y x level) (t : Shows (cell_of s a b) y x level c) where
  pub shows_part : c ≡ part (picture s a b) level k
  shows_part =
      let f = shows_flat s a b k y x level c h t in
      sym (part_one (picture s a b) level k (flat_uniform (picture s a b) c level k f) ∙ flat_first (picture s a b) c level k f)

  pub shows_inner : (o : List ℕ) (at : ℕ) → o ≡ sets o at (inner (picture s a b) level k)
  shows_inner o at = flat_inner (picture s a b) c level k (shows_flat s a b k y x level c h t) o at

-- ---- what is known of a square is known of a square within it
holds_part : (g : ℕ → ℕ → ℕ) (row column level dy dx row' column' level' : ℕ) (k : Seen) → row + dy ≡ row' → column + dx ≡ column'
    → dy + 2 ^ level' ≤ 2 ^ level → dx + 2 ^ level' ≤ 2 ^ level → Holds g row column level k → Holds g row' column' level' k
holds_part g row column level dy dx row' column' level' (One c) er ec ly lx h = record {
  each = λ i j hi hj.
      let u : row' + i ≡ row + (dy + i) = omega arith in
      let v : column' + j ≡ column + (dx + j) = omega arith in
      rw (u, v) (h.each (dy + i) (dx + j) (omega arith) (omega arith));
}
holds_part g row column level dy dx row' column' level' (Mixed p) er ec ly lx h = tt

knows_part : (s : Scene) (a b : List ℕ) (ka kb : Seen) (y x level dy dx y' x' level' : ℕ) → y + dy ≡ y' → x + dx ≡ x'
    → dy + 2 ^ level' ≤ 2 ^ level → dx + 2 ^ level' ≤ 2 ^ level → Knows s a b ka kb y x level → Knows s a b ka kb y' x' level'
knows_part s a b ka kb y x level dy dx y' x' level' ey ex ly lx h = record {
  first = holds_part _ _ _ level dy dx _ _ level' ka (omega arith) (omega arith) ly lx h.first;
  second = holds_part _ _ _ level dy dx _ _ level' kb (omega arith) (omega arith) ly lx h.second;
}

-- of a whole window nothing is known
pub whole_knows : (s : Scene) (a b : List ℕ) (w : ℕ) → Knows s a b (Mixed 0) (Mixed 0) 0 0 w
whole_knows s a b w = record { first = tt; second = tt }

-- the quarter i to the south and j to the east
pub quarter_knows : (s : Scene) (a b : List ℕ) (ka kb : Seen) (k y x level i j k' y' x' level' : ℕ) → 0 < level → i < 2 → j < 2
    → Quartered k y x (level - 1) i j k' y' x' level' → Knows s a b ka kb y x level → Knows s a b ka kb y' x' level'
quarter_knows s a b ka kb k y x level i j k' y' x' level' p hi hj q n =
    let h : ℕ = 2 ^ (level - 1) in
    let t : 2 ^ level ≡ 2 * 2 ^ (level - 1) = (let e : level ≡ suc (level - 1) = omega arith in ap (λ (m : ℕ). 2 ^ m) e ∙ pow-succ' 2 (level - 1)) in
    let e : 2 ^ level' ≡ 2 ^ (level - 1) = ap (λ (m : ℕ). 2 ^ m) q.level in
    let u : i * h + h ≤ 2 * h = up i h hi in
    let v : j * h + h ≤ 2 * h = up j h hj in
    knows_part s a b ka kb y x level (i * h) (j * h) y' x' level' (sym q.row) (sym q.column) (omega arith) (omega arith) n
  where
    up : (i h : ℕ) → i < 2 → i * h + h ≤ 2 * h
    up zero h l = omega arith
    up (suc zero) h l = omega arith
    up (suc (suc i)) h l = absurd (omega arith)
