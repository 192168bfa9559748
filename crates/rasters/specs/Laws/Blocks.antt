-- Rows of a raster, one after another and block by block.
use Rattle.std.specs.Prelude.{◌≡◌, refl, List, ℕ, suc, ◌+◌, ◌-◌, ◌*◌, ◌/◌, ◌%◌, ◌^◌, ◌<◌, ◌≤◌, length, get_or}
use Rattle.std.proofs.Common.{sym, ap, ap₂, ◌∙◌, mod-lt, div-add-mod', mul-le-mul_right, add-mul, subst, arith, rules, pow_pos, pow_mono, shr_lt}
use Rattle.std.proofs.Math.Nat.{pow-succ', pow-le-pow_right}
use Rattle.std.proofs.lemmas.List.{places}
use borrow.Rule.Slice.PartMut.{mid_of, put_mid}
use Rattle.std.proofs.Math.Decide.{dec_lt}
use Rattle.morton.specs.Block.{Block as IsBlock, Quartered}
use Rattle.morton.specs.Code.{code, row_of, column_of}
use Rattle.morton.specs.declared.block.Block.{Block}
use Rattle.morton.specs.Laws.Cell.{cell_of-code, cell_inside}
use Rattle.morton.specs.Laws.Code.{code_inside}
use Rattle.morton.specs.Laws.Power.{two_four, exponent_le}
use Rattle.morton.specs.Laws.Quarter.{aligned_place}
use Rattle.morton.specs.Laws.Square.{stays}
use Rattle.tiling.specs.Map.{colour_at}
use Rattle.probe.specs.Seen.{Covers}
use Rattle.probe.specs.Asked.{cell_at, Cell}
use Rattle.probe.specs.Search.{Spans, Found}
use Rattle.probe.specs.Laws.Leaf.{cell_spans, leaf_covers}
use Rattle.tiling.specs.IsMap.{IsMap}
use Rattle.tiling.specs.Leaf.{level_of, colour_of}
use Rattle.tiles.specs.Tile.{Stored, codes}
use Rattle.tiles.specs.Laws.Store.{stored_part}
use Rattle.rasters.specs.Raster.{place_colour}
use Rattle.rasters.specs.Blocks.{Square, Rows, Order, alone, order_of, row_of_tile, tile_cell}
use Rattle.rasters.specs.Laws.Pixel.{square, place_lt, quarter_inside}

-- ---- rows
pub rows_none : (n : ℕ) (g : ℕ → ℕ → ℕ) (y x wide : ℕ) (l : List ℕ) → Rows n g y x 0 wide l l
rows_none n g y x wide l = record { inside = λ r c a b d e. absurd (omega arith); outside = λ r c h o. refl }

-- a place of a row before another stands before that row, and one of a row after it behind
row_before : (n r q c : ℕ) → r < q → c < 2 ^ n → r * 2 ^ n + c < q * 2 ^ n
row_before n r q c h l = omega (arith, mul-le-mul_right (2 ^ n) (let e : suc r ≤ q = omega arith in e))

module _ (n : ℕ) (g : ℕ → ℕ → ℕ) (y x wide row : ℕ) (fits : x + wide ≤ 2 ^ n) {before mid after : List ℕ} {from to : ℕ} {h : ℕ → ℕ} where
  -- one row more
  pub rows_more : from ≡ (y + row) * 2 ^ n + x → to ≡ from + wide → ((d : ℕ) → d < wide → h (from + d) ≡ g (y + row) (x + d))
      → Rows n g y x row wide before mid → Stored mid from to h after → Rows n g y x (row + 1) wide before after
  rows_more ef et q s t = record { inside = inside; outside = outside }
    where
      inside : (r c : ℕ) → y ≤ r → r < y + (row + 1) → x ≤ c → c < x + wide → get_or after (r * 2 ^ n + c) 0 ≡ g r c
      inside r c a b d e = elim (dec_lt r (y + row)) [
        | yes m ↦ t.ahead (r * 2 ^ n + c) (omega (arith, row_before n r (y + row) c m (omega arith))) ∙ s.inside r c a m d e
        | no m ↦
            let er : r ≡ y + row = omega arith in
            let ec : x + (c - x) ≡ c = omega arith in
            let ep : r * 2 ^ n + c ≡ from + (c - x) = ap (λ (k : ℕ). k * 2 ^ n + c) er ∙ omega arith in
            rw ep (t.among (from + (c - x)) (omega arith) (omega arith)) ∙ q (c - x) (omega arith) ∙ ap₂ g (sym er) ec
      ]

      outside : (r c : ℕ) → c < 2 ^ n → (y ≤ r → r < y + (row + 1) → x ≤ c → c < x + wide → ⊥) → get_or after (r * 2 ^ n + c) 0 ≡ get_or before (r * 2 ^ n + c) 0
      outside r c l o = kept ∙ s.outside r c l (λ a b d e. o a (omega arith) d e)
        where
          kept : get_or after (r * 2 ^ n + c) 0 ≡ get_or mid (r * 2 ^ n + c) 0
          kept = elim (dec_lt r (y + row)) [
            | yes m ↦ t.ahead (r * 2 ^ n + c) (omega (arith, row_before n r (y + row) c m l))
            | no m ↦ elim (dec_lt (y + row) r) [
              | yes p ↦ t.behind (r * 2 ^ n + c) (omega (arith, mul-le-mul_right (2 ^ n) (let e : suc (y + row) ≤ r = omega arith in e)))
              | no p ↦
                  let er : r ≡ y + row = omega arith in
                  let ep : r * 2 ^ n ≡ (y + row) * 2 ^ n = ap (λ (k : ℕ). k * 2 ^ n) er in
                  elim (dec_lt c x) [
                    | yes u ↦ t.ahead (r * 2 ^ n + c) (omega arith)
                    | no u ↦ elim (dec_lt c (x + wide)) [
                      | yes v ↦ absurd (o (omega arith) (omega arith) (omega arith) v)
                      | no v ↦ t.behind (r * 2 ^ n + c) (omega arith)
                    ]
                  ]
            ]
          ]

-- the same colours, said in another way
pub rows_as : {n y x rows wide : ℕ} {f g : ℕ → ℕ → ℕ} {before after : List ℕ} → ((r c : ℕ) → y ≤ r → r < y + rows → x ≤ c → c < x + wide → f r c ≡ g r c)
    → Rows n f y x rows wide before after → Rows n g y x rows wide before after
rows_as q s = record { inside = λ r c a b d e. s.inside r c a b d e ∙ q r c a b d e; outside = s.outside }

-- ---- a block: in one leaf, a tile, or its quarters
module _ (n : ℕ) (l : List ℕ) (cells : ℕ) (b : Block) (w : Square n cells b.row b.column b.level) where
  abbrev y : ℕ
  y = b.row

  abbrev x : ℕ
  x = b.column

  abbrev level : ℕ
  level = b.level

  -- its first cell is one of the map's
  pub walk_cell : Cell n y x
  walk_cell = record { row_in = omega (arith, w.bottom, pow_pos level); column_in = omega (arith, w.right, pow_pos level) }

  -- which the list holds
  pub walk_spans : IsMap n l → (k : ℕ) → k ≡ code y x → Spans l k
  walk_spans m k e = rw e (cell_spans n l y x m walk_cell)

  -- in one leaf
  pub leaf-rows : {colour : ℕ} {before after : List ℕ} → Covers (cell_at l) y x level colour → Rows n (alone colour) y x (2 ^ level) (2 ^ level) before after
      → Rows n (cell_at l) y x (2 ^ level) (2 ^ level) before after
  leaf-rows {colour = colour} v s = rows_as shown s
    where
      stays_in : (a r : ℕ) → a % 2 ^ level ≡ 0 → a ≤ r → r < a + 2 ^ level → r / 2 ^ level ≡ a / 2 ^ level
      stays_in a r h lo hi =
          let e : a + (r - a) ≡ r = omega arith in
          rw e at (stays a (r - a) (2 ^ level) (2 ^ level) (omega arith) (omega arith))

      shown : (r c : ℕ) → y ≤ r → r < y + 2 ^ level → x ≤ c → c < x + 2 ^ level → colour ≡ cell_at l r c
      shown r c a m d e = sym (v.each r c (stays_in y r b.is.rows a m) (stays_in x c b.is.columns d e))

  -- so a leaf of the level at least, found by the block's code, fills it
  pub found_rows : IsMap n l → (k at colour : ℕ) → Found l k at → colour ≡ colour_of (get_or l at 0) → level ≤ level_of (get_or l at 0)
      → {before after : List ℕ} → Rows n (alone colour) y x (2 ^ level) (2 ^ level) before after → k ≡ code y x
      → Rows n (cell_at l) y x (2 ^ level) (2 ^ level) before after
  found_rows m k at colour f c h s e = leaf-rows (leaf_covers n l y x m walk_cell at (rw e at f) level colour (sym c) h) s

-- a tile
pub tile_rows : (n : ℕ) (l : List ℕ) (cells : ℕ) (b : Block) → b.level ≡ 4 → Square n cells b.row b.column 4 → {old tile : List ℕ} → Stored old 0 256 (codes l b.code 0) tile → {before after : List ℕ}
    → Rows n (tile_cell tile b.row b.column) b.row b.column 16 16 before after → Rows n (cell_at l) b.row b.column 16 16 before after
tile_rows n l cells b level_is q {tile = tile} t s = rows_as shown s
  where
    shown : (r c : ℕ) → b.row ≤ r → r < b.row + 16 → b.column ≤ c → c < b.column + 16 → tile_cell tile b.row b.column r c ≡ cell_at l r c
    shown r c lo hi west east =
        let z : IsBlock b.code b.row b.column 4 = subst (λ (L : ℕ). IsBlock b.code b.row b.column L) level_is b.is in
        let k : ℕ = code (r - b.row) (c - b.column) in
        let small : k < 4 ^ 4 = code_inside 4 (r - b.row) (c - b.column) (omega arith) (omega arith) (omega arith) in
        let back = cell_of-code (r - b.row) (c - b.column) (omega arith) (omega arith) in
        let place = aligned_place 4 b.row b.column k (omega arith) z.rows z.columns small in
        let er : b.row + row_of k ≡ r = omega arith in
        let ec : b.column + column_of k ≡ c = omega arith in
        let ek : k - 0 ≡ k = omega arith in
        let ex : b.code + k ≡ code (b.row + row_of k) (b.column + column_of k) = omega (arith, z.is, place) in
        t.among k (omega arith) (omega arith) ∙ ap (λ (i : ℕ). colour_at l (b.code + i)) ek ∙ ap (colour_at l) (ex ∙ ap₂ code er ec)

-- and the four together are the block
module _ (n : ℕ) (g : ℕ → ℕ → ℕ) (y x level h : ℕ) (p : 0 < level) (e : h ≡ 2 ^ (level - 1)) (fits : x + 2 ^ level ≤ 2 ^ n) where
  twice : 2 ^ level ≡ 2 * h
  twice = let u : level ≡ suc (level - 1) = omega arith in ap (λ (m : ℕ). 2 ^ m) u ∙ pow-succ' 2 (level - 1) ∙ ap (λ (k : ℕ). 2 * k) (sym e)

  pub four_rows : {o₀ o₁ o₂ o₃ o₄ : List ℕ} → Rows n g y x h h o₀ o₁ → Rows n g y (x + h) h h o₁ o₂ → Rows n g (y + h) x h h o₂ o₃ → Rows n g (y + h) (x + h) h h o₃ o₄
      → Rows n g y x (2 ^ level) (2 ^ level) o₀ o₄
  four_rows {o₀ = o₀} {o₄ = o₄} s₀ s₁ s₂ s₃ = record { inside = inside; outside = outside }
    where
      t : 2 ^ level ≡ 2 * h
      t = twice

      inside : (r c : ℕ) → y ≤ r → r < y + 2 ^ level → x ≤ c → c < x + 2 ^ level → get_or o₄ (r * 2 ^ n + c) 0 ≡ g r c
      inside r c a b d f = elim (dec_lt r (y + h)) [
        | yes m ↦ elim (dec_lt c (x + h)) [
          | yes k ↦ s₃.outside r c (omega (arith, t)) (λ i j u v. omega (arith, t)) ∙ s₂.outside r c (omega (arith, t)) (λ i j u v. omega (arith, t)) ∙ s₁.outside r c (omega (arith, t)) (λ i j u v. omega (arith, t)) ∙ s₀.inside r c a m d k
          | no k ↦ s₃.outside r c (omega (arith, t)) (λ i j u v. omega (arith, t)) ∙ s₂.outside r c (omega (arith, t)) (λ i j u v. omega (arith, t)) ∙ s₁.inside r c a m (omega (arith, t)) (omega (arith, t))
        ]
        | no m ↦ elim (dec_lt c (x + h)) [
          | yes k ↦ s₃.outside r c (omega (arith, t)) (λ i j u v. omega (arith, t)) ∙ s₂.inside r c (omega (arith, t)) (omega (arith, t)) d k
          | no k ↦ s₃.inside r c (omega (arith, t)) (omega (arith, t)) (omega (arith, t)) (omega (arith, t))
        ]
      ]

      outside : (r c : ℕ) → c < 2 ^ n → (y ≤ r → r < y + 2 ^ level → x ≤ c → c < x + 2 ^ level → ⊥) → get_or o₄ (r * 2 ^ n + c) 0 ≡ get_or o₀ (r * 2 ^ n + c) 0
      outside r c f o =
          s₃.outside r c f (λ i j u v. o (omega (arith, t)) (omega (arith, t)) (omega (arith, t)) (omega (arith, t)))
          ∙ s₂.outside r c f (λ i j u v. o (omega (arith, t)) (omega (arith, t)) (omega (arith, t)) (omega (arith, t)))
          ∙ s₁.outside r c f (λ i j u v. o (omega (arith, t)) (omega (arith, t)) (omega (arith, t)) (omega (arith, t)))
          ∙ s₀.outside r c f (λ i j u v. o (omega (arith, t)) (omega (arith, t)) (omega (arith, t)) (omega (arith, t)))

-- ---- the whole raster
pub whole-rows : (n : ℕ) (l : List ℕ) {before after : List ℕ} → Rows n (cell_at l) 0 0 (2 ^ n) (2 ^ n) before after → (i : ℕ) → i < 4 ^ n → get_or after i 0 ≡ place_colour n l i
whole-rows n l {after = after} s i h =
    let e : i / 2 ^ n * 2 ^ n + i % 2 ^ n ≡ i = div-add-mod' i (2 ^ n) in
    let r : i / 2 ^ n < 2 ^ n = shr_lt n n (rw (← square_of n) at h) in
    rw e at (s.inside (i / 2 ^ n) (i % 2 ^ n) (omega arith) (omega arith) (omega arith) (omega (arith, mod-lt i (pow_pos n))))
  where
    square_of : (k : ℕ) → 2 ^ (k + k) ≡ 4 ^ k
    square_of k = let q : k + k ≡ 2 * k = omega arith in ap (λ (m : ℕ). 2 ^ m) q ∙ two_four k

-- ---- the places of a square's rows
pub row_fits : (n cells y x level row : ℕ) → Square n cells y x level → row < 2 ^ level → (y + row) * 2 ^ n + x + 2 ^ level ≤ cells
row_fits n cells y x level row s h =
    let p = pow_pos level in
    let q = place_lt n (y + row) (x + 2 ^ level - 1) (omega (arith, s.bottom)) (omega (arith, s.right)) in
    omega (arith, s.whole)

pub row_small : (n cells y x level row : ℕ) → Square n cells y x level → row ≤ 2 ^ level → (y + row) * 2 ^ n + x ≤ 2 ^ 31
row_small n cells y x level row s h =
    let a : 2 ^ n ≤ 2 ^ 15 = pow_mono s.size in
    let b : (y + row) * 2 ^ n ≤ 2 ^ n * 2 ^ n = mul-le-mul_right (2 ^ n) (let e : y + row ≤ 2 ^ n = omega (arith, s.bottom) in e) in
    let c : 4 ^ n ≤ 4 ^ 15 = pow-le-pow_right (omega arith) s.size in
    omega (arith, square n, s.right, pow_pos level)

pub next_row : (a w x : ℕ) → a * w + x + w ≡ (a + 1) * w + x
next_row a w x = omega (arith, add-mul a 1 w)

-- the order of a tile's cells
pub order_small : (j : ℕ) → j < 256 → order_of j < 256
order_small j h = let s : code (j / 16) (j % 16) < 4 ^ 4 = code_inside 4 (j / 16) (j % 16) (omega arith) (omega arith) (omega arith) in omega arith

-- a row of that order
abbrev row_codes : List ℕ → ℕ → List ℕ
row_codes order row = mid_of (16 * row) (16 * row + 16 - 16 * row) order

module _ (order : List ℕ) (row : ℕ) (whole : length order ≡ 256) where
  row_code : row < 16 → (d : ℕ) → d < 16 → get_or (row_codes order row) d 0 ≡ get_or order (16 * row + d) 0
  row_code h d l = search (rules, places)

  pub row_codes_small : Order order → row < 16 → (d : ℕ) → d < 16 → get_or (row_codes order row) d 0 < 256
  row_codes_small o h d l = omega (arith, row_code h d l, o.each (16 * row + d) (omega arith), order_small (16 * row + d) (omega arith))

-- a row of a tile that is written over a part of a raster
pub row_stored : (tile order l m : List ℕ) (row place : ℕ) → length order ≡ 256 → row < 16 → place + 16 ≤ length l → length m ≡ 16
    → ((d : ℕ) → d < 16 → get_or m d 0 ≡ get_or tile (get_or (row_codes order row) d 0) 0)
    → Stored l place (place + 16) (row_of_tile tile order (16 * row) place) (put_mid place (place + 16 - place) l m)
row_stored tile order l m row place e h b n q = stored_part l place (place + 16) m (omega arith) b (omega arith) shown
  where
    shown : (d : ℕ) → d < place + 16 - place → get_or m d 0 ≡ row_of_tile tile order (16 * row) place (place + d)
    shown d k =
        let z : place + d - place ≡ d = omega arith in
        rw z (q d (omega arith) ∙ ap (λ (i : ℕ). get_or tile i 0) (row_code order row e h d (omega arith)))

-- a row of a tile, by the order of its cells
pub tile_row : (tile order : List ℕ) (y x row from : ℕ) → Order order → row < 16 → (d : ℕ) → d < 16
    → row_of_tile tile order (16 * row) from (from + d) ≡ tile_cell tile y x (y + row) (x + d)
tile_row tile order y x row from o h d l =
    let e : from + d - from ≡ d = omega arith in
    let r : (16 * row + d) / 16 ≡ y + row - y = omega arith in
    let c : (16 * row + d) % 16 ≡ x + d - x = omega arith in
    ap (λ (i : ℕ). get_or tile (get_or order (16 * row + i) 0) 0) e ∙ ap (λ (k : ℕ). get_or tile k 0) (o.each (16 * row + d) (omega arith) ∙ ap₂ code r c)

-- the codes of a tile are the map's
pub tile_codes : (n cells : ℕ) (b : Block) → b.level ≡ 4 → Square n cells b.row b.column 4 → b.code + 256 ≤ 4 ^ n
tile_codes n cells b l q =
    let z : IsBlock b.code b.row b.column 4 = subst (λ (L : ℕ). IsBlock b.code b.row b.column L) l b.is in
    let t = cell_inside 4 255 (omega arith) (omega arith) in
    let p = aligned_place 4 b.row b.column 255 (omega arith) z.rows z.columns (omega arith) in
    let k = code_inside n (b.row + row_of 255) (b.column + column_of 255) (omega (arith, q.size)) (omega (arith, q.bottom)) (omega (arith, q.right)) in
    omega (arith, z.is)

-- no block is larger than the map
pub walk_level : (n cells : ℕ) (b : Block) → Square n cells b.row b.column b.level → b.level ≤ n
walk_level n cells b w = exponent_le b.level n (omega (arith, w.bottom))

-- a quarter of a block that lies within the raster lies within it
pub quarter_square : (n cells k y x level i j k' y' x' level' : ℕ) → 0 < level → i < 2 → j < 2 → Quartered k y x (level - 1) i j k' y' x' level'
    → Square n cells y x level → Square n cells y' x' level'
quarter_square n cells k y x level i j k' y' x' level' p hi hj q s =
    let c = quarter_inside n k y x level i j k' y' x' level' p hi hj q (record { rows = s.bottom; columns = s.right }) in
    record { size = s.size; whole = s.whole; bottom = c.rows; right = c.columns }

-- the rows of a quarter, where it lies
pub quarter_rows : (n : ℕ) (g : ℕ → ℕ → ℕ) (k y x L i j k' y' x' l r c : ℕ) {before after : List ℕ} → Quartered k y x (L - 1) i j k' y' x' l
    → y + i * 2 ^ (L - 1) ≡ r → x + j * 2 ^ (L - 1) ≡ c → Rows n g y' x' (2 ^ l) (2 ^ l) before after → Rows n g r c (2 ^ (L - 1)) (2 ^ (L - 1)) before after
quarter_rows n g k y x L i j k' y' x' l r c q er ec s =
    let a : y' ≡ r = q.row ∙ er in
    let b : x' ≡ c = q.column ∙ ec in
    rw (a, b, q.level) at s

-- the rows of the whole raster, place by place
pub whole_rows_at : (n : ℕ) (l : List ℕ) (y x L : ℕ) {before after : List ℕ} → y ≡ 0 → x ≡ 0 → L ≡ n → Rows n (cell_at l) y x (2 ^ L) (2 ^ L) before after
    → (i : ℕ) → i < 4 ^ n → get_or after i 0 ≡ place_colour n l i
whole_rows_at n l y x L a b e s = whole-rows n l (rw (a, b, e) at s)
