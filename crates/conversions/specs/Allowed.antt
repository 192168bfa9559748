-- Which answer each call may give, and when: one line for each refusal of the paper's table that the call may make, in the paper's
-- order, and one for what it gives. Each line asks that no earlier check refuses.
use Rattle.std.specs.Prelude.{◌≡◌, List, ℕ, ◌+◌, ◌*◌, ◌^◌, ◌<◌, ◌≤◌, pos, length, get_or}
use Rattle.refusal.specs.Rules as rule
use Rattle.refusal.specs.Answer.{gives, refuses}
use Rattle.tiling.specs.Map.{limit, colour_in}
use Rattle.tiling.specs.WellFormed.{WellFormed, FirstWrong}
use Rattle.shortest.specs.Demand.{IsShortest}
use Rattle.shortest.specs.Outcome.{Outcome}
use Rattle.rasters.specs.Raster.{pixel}

-- raster to list: 1, 10, 5. `IsShortest` says of a list that it is well formed, shows the picture, and that no such list is shorter
pub data Lists (n : ℕ) (cells : List ℕ) (space : ℕ) : Outcome → Type 0 where
  size : limit < n → Lists n cells space (refuses rule.size 0)
  raster : n ≤ limit → (length cells ≡ 4 ^ n → ⊥) → Lists n cells space (refuses rule.raster_length 0)
  room : {l : List ℕ} → n ≤ limit → length cells ≡ 4 ^ n → IsShortest (pixel n cells) n l → space < length l → Lists n cells space (refuses rule.no_room (length l))
  right : {l : List ℕ} → n ≤ limit → length cells ≡ 4 ^ n → IsShortest (pixel n cells) n l → length l ≤ space → Lists n cells space (gives l)

-- list to raster: 1, 10, 3; what it gives is a raster in which each cell of the square has the map's colour
pub data Rasters (n : ℕ) (l : List ℕ) (space : ℕ) : Outcome → Type 0 where
  size : limit < n → Rasters n l space (refuses rule.size 0)
  raster : n ≤ limit → (space ≡ 4 ^ n → ⊥) → Rasters n l space (refuses rule.raster_length 0)
  list : {i : ℕ} → n ≤ limit → space ≡ 4 ^ n → FirstWrong n l i → Rasters n l space (refuses rule.first_list i)
  right : {cells : List ℕ} → n ≤ limit → space ≡ 4 ^ n → WellFormed n l → length cells ≡ 4 ^ n
      → ((r c : ℕ) → r < 2 ^ n → c < 2 ^ n → get_or cells (r * 2 ^ n + c) 0 ≡ colour_in n l (pos r) (pos c)) → Rasters n l space (gives cells)
