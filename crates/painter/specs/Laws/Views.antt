-- What holds of every view, and of every block of one.
use Rattle.std.specs.Prelude.{◌≡◌, ℕ, ◌+◌, ◌^◌, ◌<◌, ◌≤◌, List, length, get_or}
use Rattle.std.proofs.Common.{sym, ap, ◌∙◌, subst, arith}
use Rattle.std.proofs.lemmas.List.Edits.{sets}
use Rattle.morton.specs.Block.{Block as IsBlock}
use Rattle.morton.specs.Power.{highest}
use Rattle.morton.specs.Laws.Block.{block_level}
use Rattle.morton.specs.declared.block.Block.{Block}
use Rattle.tiling.specs.Leaf.{colours}
use Rattle.shortest.specs.Part.{part}
use Rattle.shortest.specs.Written.{inner, Placed}
use Rattle.shortest.specs.Laws.Same.{Same}
use Rattle.shortest.proofs.Same.{part_same, inner-same, placed_same}
use Rattle.tiles.specs.Listing.{spots}
use Rattle.tiles.specs.Tile.{Tile}
use Rattle.painter.specs.View.{scene_of, first_of, second_of, cell_in, picture_in}
use Rattle.painter.specs.Laws.Blocks.{coloured, tile_bytes}
use Rattle.painter.specs.Laws.Tiles.{block_same}
use Rattle.painter.specs.declared.scene.View.{View}

pub view_coloured : (v : View) (k : ℕ) → picture_in v k < colours
view_coloured v k = coloured (scene_of v) (first_of v) (second_of v) k

pub glance_fits : (b : Block) → (b.level ≤ highest) × (b.code + 4 ^ b.level ≤ 4 ^ highest)
glance_fits b = (block_level _ _ _ _ b.is, b.is.fits)

-- the tile over a block of a tile's level
module _ (v : View) (b : Block) (level_is : b.level ≡ 4) (cells : List ℕ) (t : Tile (cell_in v) b.row b.column 256 cells) where
  tile_block : IsBlock b.code b.row b.column 4
  tile_block = subst (λ (L : ℕ). IsBlock b.code b.row b.column L) level_is b.is

  pub tile_small : b.code + 256 ≤ 4 ^ highest
  tile_small = omega (arith, tile_block.fits)

  pub bytes : length cells ≡ 256 → (j : ℕ) → get_or cells j 0 < colours
  bytes w = tile_bytes (scene_of v) (first_of v) (second_of v) b.row b.column cells w t

  pub same : Same (spots cells b.code) (picture_in v) 4 b.code
  same = block_same (scene_of v) (first_of v) (second_of v) b.code b.row b.column cells tile_block t

-- what is counted and written of a picture that is the same over a block of a tile's level, as a block of level L at the code k
module _ (v : View) (b : Block) (level_is : b.level ≡ 4) (f : ℕ → ℕ) (s : Same f (picture_in v) 4 b.code) (k L : ℕ) (ek : k ≡ b.code) (eL : L ≡ 4) where
  pub tile_part : (r : ℕ) → r ≡ part f L k → r ≡ part (picture_in v) b.level b.code
  tile_part r h = rw (ek, eL) at h ∙ part_same f (picture_in v) 4 b.code s ∙ ap (λ (n : ℕ). part (picture_in v) n b.code) (sym level_is)

  pub tile_placed : (o : List ℕ) (at : ℕ) → Placed (picture_in v) o at b.level b.code → Placed f o at L k
  tile_placed o at h = rw (ek, eL) (placed_same f (picture_in v) 4 b.code s o at (subst (λ (n : ℕ). Placed (picture_in v) o at n b.code) level_is h))

  pub tile_wrote : (o o' : List ℕ) (at : ℕ) → o' ≡ sets o at (inner f L k) → o' ≡ sets o at (inner (picture_in v) b.level b.code)
  tile_wrote o o' at h =
      rw (ek, eL) at h
      ∙ ap (λ (l : List ℕ). sets o at l) (inner-same f (picture_in v) 4 b.code s)
      ∙ ap (λ (n : ℕ). sets o at (inner (picture_in v) n b.code)) (sym level_is)
