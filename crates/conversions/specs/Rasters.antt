-- Raster to list and back.
use Rattle.std.specs.Prelude.{not, List, ℕ, ◌^◌, ltb, eqb, length}
use Rattle.refusal.specs.Rules as rule
use Rattle.refusal.specs.Answer.{gives, refuse_if}
use Rattle.refusal.specs.Judged.{refuse_wrong}
use Rattle.tiling.specs.Map.{limit}
use Rattle.tiling.specs.Check.{checked}
use Rattle.shortest.specs.Shortest.{shortest}
use Rattle.shortest.specs.Outcome.{Outcome, fitting}
use Rattle.rasters.specs.Raster.{pixel, raster_of}

-- raster to list: 1, 10, 5; the shortest list of those cells
unfoldable pub raster_to_list : ℕ → List ℕ → ℕ → Outcome
raster_to_list n cells space =
    refuse_if (ltb limit n) rule.size 0
    (refuse_if (not (eqb (length cells) (4 ^ n))) rule.raster_length 0
    (fitting (shortest (pixel n cells) n 0) space))

-- list to raster: 1, 10, 3; all the map's cells
unfoldable pub list_to_raster : ℕ → List ℕ → ℕ → Outcome
list_to_raster n l space =
    refuse_if (ltb limit n) rule.size 0
    (refuse_if (not (eqb space (4 ^ n))) rule.raster_length 0
    (refuse_wrong rule.first_list (checked n l)
    (gives (raster_of n l))))
