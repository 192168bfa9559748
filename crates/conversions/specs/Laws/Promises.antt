-- What follows from an outcome's being allowed: of no room, of the list's cells.
use Rattle.std.specs.Prelude.{◌≡◌, refl, List, ℕ, ◌+◌, ◌*◌, ◌^◌, ◌<◌, ◌≤◌, pos, get_or}
use Rattle.std.proofs.Common.{◌∙◌, subst, arith}
use Rattle.refusal.specs.Rules as rule
use Rattle.refusal.specs.Answer.{gives, refuses}
use Rattle.tiling.specs.Leaf.{colours}
use Rattle.tiling.specs.Map.{limit, colour_in}
use Rattle.shortest.specs.Demand.{IsShortest, NoRoom}
use Rattle.shortest.specs.Outcome.{Outcome}
use Rattle.rasters.specs.Raster.{pixel}
use Rattle.rasters.specs.Laws.Pixel.{pixel-at}
use Rattle.shortest.specs.Laws.Shown.{shown_at, cell_bits}
use Rattle.shortest.specs.Laws.Promises.{no_room_lem, Told}
use Rattle.conversions.specs.Rasters.{raster_to_list}
use Rattle.conversions.specs.Laws.Cells.{lists}
use Rattle.conversions.specs.Allowed.{Lists}

list_told : (n : ℕ) (cells : List ℕ) (space : ℕ) (x : Outcome) → Lists n cells space x → Told (pixel n cells) n space x
list_told n cells space x (Lists.size h) = λ e. absurd (omega arith)
list_told n cells space x (Lists.raster p h) = λ e. absurd (omega arith)
list_told n cells space x (Lists.room {l = l} p q i h) = λ e. no_room_lem (pixel n cells) n space l i h
list_told n cells space x (Lists.right p q i h) = (p, i)

module _ (n : ℕ) (cells : List ℕ) (space : ℕ) (coloured : (j : ℕ) → pixel n cells j < colours) where
  pub list_refused : (k : ℕ) → raster_to_list n cells space ≡ refuses rule.no_room k → NoRoom (pixel n cells) n space k
  list_refused k e = subst (Told (pixel n cells) n space) e (list_told n cells space _ (lists n cells space coloured)) refl

  pub list_shown : (l : List ℕ) → raster_to_list n cells space ≡ gives l → (n ≤ limit) × IsShortest (pixel n cells) n l
  list_shown l e = subst (Told (pixel n cells) n space) e (list_told n cells space _ (lists n cells space coloured))

-- the cells of a list that shows a raster
pub raster_shown : (n : ℕ) (cells l : List ℕ) → n ≤ limit → IsShortest (pixel n cells) n l
    → (y x : ℕ) → y < 2 ^ n → x < 2 ^ n → colour_in n l (pos y) (pos x) ≡ get_or cells (y * 2 ^ n + x) 0
raster_shown n cells l low i y x hy hx = shown_at (pixel n cells) n l low i y x hy hx ∙ pixel-at n cells y x (cell_bits n y low hy) (cell_bits n x low hx)
