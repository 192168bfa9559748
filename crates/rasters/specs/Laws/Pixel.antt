-- Where a cell stands in a raster, and the blocks of one.
use Rattle.std.specs.Prelude.{◌≡◌, refl, List, ℕ, zero, suc, ◌+◌, ◌*◌, ◌-◌, ◌^◌, ◌≤◌, ◌<◌, get_or}
use Rattle.std.proofs.Common.{sym, ap, ap₂, ◌∙◌, subst, arith, pow_pos, pow_mono}
use Rattle.std.proofs.Math.Nat.{pow-succ'}
use Rattle.std.proofs.Math.Arith.{digits_lt}
use Rattle.morton.specs.Code.{code, row_of, column_of}
use Rattle.morton.specs.Power.{highest}
use Rattle.morton.specs.Block.{Block as IsBlock, Quarters, Quartered}
use Rattle.morton.specs.Laws.Cell.{cell_of-code}
use Rattle.morton.specs.Laws.Block.{block_level, quarters}
use Rattle.morton.specs.declared.block.Block.{Block}
use Rattle.tiling.specs.Leaf.{colours}
use Rattle.shortest.specs.Part.{part}
use Rattle.shortest.specs.Walk.{Divisible}
use Rattle.shortest.proofs.Parts.{part_cell}
use Rattle.rasters.specs.Raster.{pixel}
use Rattle.rasters.specs.Listing.{Pixel, Inside}

-- the cells of a square, row by row
pub square : (n : ℕ) → 2 ^ n * 2 ^ n ≡ 4 ^ n
square zero = refl
square (suc n) = rw (pow-succ' 2 n, pow-succ' 4 n) (omega (arith, square n))

pub place_lt : (n y x : ℕ) → y < 2 ^ n → x < 2 ^ n → y * 2 ^ n + x < 4 ^ n
place_lt n y x hy hx = rw (← square n) (digits_lt hy hx)

pub pixel-at : (n : ℕ) (cells : List ℕ) (y x : ℕ) → y < 2 ^ 16 → x < 2 ^ 16 → pixel n cells (code y x) ≡ get_or cells (y * 2 ^ n + x) 0
unfolding pixel
pixel-at n cells y x hy hx =
    let e = cell_of-code y x hy hx in
    ap₂ (λ (r c : ℕ). get_or cells (r * 2 ^ n + c) 0) e.0 e.1

-- bytes are colours
pub coloured : (n : ℕ) (cells : List ℕ) → ((j : ℕ) → get_or cells j 0 < colours) → (j : ℕ) → pixel n cells j < colours
unfolding pixel
coloured n cells h j = h (row_of j * 2 ^ n + column_of j)

pub pixel-bits : (n y x : ℕ) → n ≤ highest → Pixel n y x → (y < 2 ^ 15) × (x < 2 ^ 15)
pixel-bits n y x h p = let q : 2 ^ n ≤ 2 ^ 15 = pow_mono h in omega (arith, p.row, p.column)

-- a block lies within the largest square, and the whole one within the map
pub block_fits : (b : Block) → (b.level ≤ highest) × (b.code + 4 ^ b.level ≤ 4 ^ highest)
block_fits b = (block_level _ _ _ _ b.is, b.is.fits)

-- a block that is no single cell can be walked by its quarters
pub divisible : (n : ℕ) (cells : List ℕ) → ((j : ℕ) → get_or cells j 0 < colours) → (b : Block) → 0 < b.level → Divisible (pixel n cells) b.level b.code
divisible n cells h b p = let f = block_fits b in record { coloured = coloured n cells h; some = p; low = f.0; codes = f.1 }

pub whole_inside : (n : ℕ) → Inside n 0 0 n
whole_inside n = record { rows = omega arith; columns = omega arith }

-- the upper left cell of a block
pub first_pixel : (n y x level : ℕ) → Inside n y x level → Pixel n y x
first_pixel n y x level c = record { row = omega (arith, c.rows, pow_pos level); column = omega (arith, c.columns, pow_pos level) }

-- the quarter i to the south and j to the east
pub quarter_inside : (n k y x level i j k' y' x' level' : ℕ) → 0 < level → i < 2 → j < 2 → Quartered k y x (level - 1) i j k' y' x' level'
    → Inside n y x level → Inside n y' x' level'
quarter_inside n k y x level i j k' y' x' level' p hi hj q c =
    let h : ℕ = 2 ^ (level - 1) in
    let t : 2 ^ level ≡ 2 * 2 ^ (level - 1) = (let e : level ≡ suc (level - 1) = omega arith in ap (λ (m : ℕ). 2 ^ m) e ∙ pow-succ' 2 (level - 1)) in
    let e : 2 ^ level' ≡ 2 ^ (level - 1) = ap (λ (m : ℕ). 2 ^ m) q.level in
    let u : i * h + h ≤ 2 * h = up i h hi in
    let v : j * h + h ≤ 2 * h = up j h hj in
    record { rows = omega (arith, q.row, c.rows); columns = omega (arith, q.column, c.columns) }
  where
    up : (i h : ℕ) → i < 2 → i * h + h ≤ 2 * h
    up zero h l = omega arith
    up (suc zero) h l = omega arith
    up (suc (suc i)) h l = absurd (omega arith)

-- its cells, one by one: those of a block of four
module _ (b : Block) (l : b.level ≡ 1) where
  cells_of : Quarters b.code b.row b.column 0 1 1
  cells_of = quarters b.code b.row b.column 1 1 1 (omega arith) refl refl (subst (λ (L : ℕ). IsBlock b.code b.row b.column L) l b.is)

  pub four_codes : (code b.row b.column ≡ b.code) × (code b.row (b.column + 1) ≡ b.code + 1) × (code (b.row + 1) b.column ≡ b.code + 2) × (code (b.row + 1) (b.column + 1) ≡ b.code + 3)
  four_codes = let q = cells_of in (sym q.nw.is, sym q.ne.is, sym q.sw.is, sym q.se.is)

  -- four of them lie within the largest square
  pub four_fit : b.code + 4 ≤ 4 ^ highest
  four_fit = omega (arith, cells_of.codes)

-- a single cell
module _ (n : ℕ) (cells : List ℕ) (b : Block) (l : b.level ≡ 0) where
  pub single_part : pixel n cells (code b.row b.column) ≡ part (pixel n cells) b.level b.code
  single_part = ap (pixel n cells) (sym b.is.is) ∙ rw l (sym (part_cell (pixel n cells) b.code))
