-- The starred cases of the paper: one table, one claim, computed. Each row is a call of the definition that the call's contract cites.
use Rattle.std.specs.Prelude.{◌≡◌, refl, false, List, [], ◌∷◌, ℕ, ℤ, pos, negsuc, Float, get_or}
use Rattle.std.specs.Float.{binary64}
use Rattle.std.specs.Float.Ieee.{round}
use Rattle.refusal.specs.Answer.{Answer, gives, refuses}
use Rattle.morton.specs.Code.{interleaved, gathered}
use Rattle.tiling.specs.Map.{colour_at, colour_in}
use Rattle.tiling.specs.Check.{checked_from}
use Rattle.shortest.specs.Shortest.{shortest, uniform, all}
use Rattle.shortest.specs.Outcome.{Outcome}
use Rattle.rasters.specs.Raster.{pixel}
use Rattle.place.specs.Placing.{in1024ths, cell_side, reading, exact, offsets, between, on_ground, placed}
use Rattle.place.specs.declared.Place.TheVariants.{OnGround}
use Rattle.place.specs.declared.Shift.{Shift}
use Rattle.painter.specs.declared.operations.Operation.{Operation}
use Rattle.painter.specs.declared.operations.Operation.TheVariants.{Intersection, Union, Difference}
use Rattle.conversions.specs.Rasters.{raster_to_list}
use Rattle.lookups.specs.Lists.{list_check}
use Rattle.overlays.specs.Overlay.{overlaid, windowed}
use Rattle.overlays.specs.declared.Frame.TheVariants.{OfFirst}

-- what a row holds
pub data Result : Type 0 where
  word : ℕ → Result
  count : Answer ℕ → Result
  list : Outcome → Result
  shift : Answer Shift → Result

-- P's cells, row by row, and its list
abbrev cells : List ℕ
cells = 1 ∷ 1 ∷ 0 ∷ 0 ∷ 1 ∷ 1 ∷ 0 ∷ 1 ∷ 0 ∷ 0 ∷ 1 ∷ 1 ∷ 0 ∷ 0 ∷ 1 ∷ 1 ∷ []

abbrev listed : Outcome → List ℕ
listed (gives l) = l
listed (refuses rule number) = []

abbrev P : List ℕ
P = listed (raster_to_list 2 cells 16)

-- S: one black leaf of size 1
abbrev S : List ℕ
S = 257 ∷ []

abbrev SonP : Operation → ℕ → ℕ → ℕ → Outcome
SonP operation dy dx space = overlaid operation 2 P 1 S (record { dy = pos dy; dx = pos dx }) OfFirst space

abbrev window_of_p : ℤ → ℤ → ℕ → Outcome
window_of_p wy wx size = windowed 2 P (record { wy = wy; wx = wx; size = size }) 64

-- four alike brothers
abbrev alike : List ℕ
alike = 1 ∷ 65537 ∷ 131073 ∷ 196609 ∷ []

-- the first map at north 1000, east 500, cell 10; the second at a north and a cell, east 520
abbrev whole : ℕ → Float
whole a = round binary64 false a 1

abbrev placed_at : ℕ → ℕ → Answer Shift
placed_at north cell =
    placed
    (OnGround (record { north = whole 1000; east = whole 500; cell = whole 10 })
    (record { north = whole north; east = whole 520; cell = whole cell }))

abbrev asked : List Result
asked =
    word (get_or P 4 0)
    ∷ word (get_or P 6 0)
    ∷ list (SonP Intersection 1 1 16)
    ∷ list (SonP Union 1 1 16)
    ∷ list (SonP Difference 1 1 16)
    ∷ list (SonP Intersection 1 1 9)
    ∷ list (SonP Intersection 1 1 10)
    ∷ list (SonP Intersection 4 0 16)
    ∷ list (window_of_p (negsuc 0) (negsuc 0) 1)
    ∷ list (window_of_p (pos 0) (pos 0) 3)
    ∷ count (list_check 1 alike)
    ∷ list (windowed 1 alike (record { wy = pos 0; wx = pos 0; size = 1 }) 4)
    ∷ count (list_check 1 (0 ∷ 65536 ∷ 131072 ∷ []))
    ∷ count (list_check 1 [])
    ∷ count (list_check 1 (512 ∷ []))
    ∷ count (list_check 2 (0 ∷ 65792 ∷ []))
    ∷ shift (placed_at 970 10)
    ∷ shift (placed_at 975 10)
    ∷ shift (placed_at 970 5)
    ∷ []

-- black at the codes 03 and 30 only, which are 3 and 12
abbrev ten : List ℕ
ten = 0 ∷ 65536 ∷ 131072 ∷ 196609 ∷ 262400 ∷ 524544 ∷ 786433 ∷ 851968 ∷ 917504 ∷ 983040 ∷ []

abbrev told : List Result
told =
    word 458753
    ∷ word 786689
    ∷ list (gives ten)
    ∷ list (gives (257 ∷ 262144 ∷ 327680 ∷ 393217 ∷ 458753 ∷ 524288 ∷ 589825 ∷ 655360 ∷ 720896 ∷ 786689 ∷ []))
    ∷ list (gives (1 ∷ 65537 ∷ 131073 ∷ 196608 ∷ 262144 ∷ 327680 ∷ 393216 ∷ 458753 ∷ 524544 ∷ 786432 ∷ 851969 ∷ 917505 ∷ 983041 ∷ []))
    ∷ list (refuses 5 10)
    ∷ list (gives ten)
    ∷ list (gives (512 ∷ []))
    ∷ list (gives (0 ∷ 65536 ∷ 131072 ∷ 196609 ∷ []))
    ∷ list (gives (257 ∷ 262144 ∷ 327680 ∷ 393216 ∷ 458753 ∷ 524544 ∷ 786689 ∷ 1049088 ∷ 2097664 ∷ 3146240 ∷ []))
    ∷ count (gives 4)
    ∷ list (gives (257 ∷ []))
    ∷ count (refuses 3 3)
    ∷ count (refuses 3 0)
    ∷ count (refuses 3 0)
    ∷ count (refuses 3 1)
    ∷ shift (gives (record { dy = pos 3; dx = pos 2 }))
    ∷ shift (refuses 8 0)
    ∷ shift (refuses 7 0)
    ∷ []

pub starred : asked ≡ told
unfolding raster_to_list list_check overlaid windowed shortest uniform all pixel checked_from colour_in colour_at interleaved gathered placed offsets on_ground between exact reading cell_side in1024ths round
starred = refl
