-- Worked cases, in four tables that antt computes.
use Rattle.std.specs.Prelude.{◌≡◌, refl, List, [], ◌∷◌, ℕ, ℤ, pos, negsuc}
use Rattle.refusal.specs.Answer.{Answer, gives, refuses}
use Rattle.morton.specs.Code.{interleaved, gathered}
use Rattle.tiling.specs.Map.{colour_at, colour_in}
use Rattle.tiling.specs.Check.{checked_from}
use Rattle.shortest.specs.Shortest.{shortest, uniform, all}
use Rattle.shortest.specs.Outcome.{Outcome, written}
use Rattle.rasters.specs.Raster.{pixel, places, raster_of}
use Rattle.conversions.specs.Rasters.{raster_to_list, list_to_raster}
use Rattle.lookups.specs.Lists.{list_check, cell_lookup}
use Rattle.lookups.specs.Neighbour.{neighbour}
use Rattle.overlays.specs.Overlay.{overlaid, windowed}
use Rattle.overlays.specs.declared.Frame.TheVariants.{OfFirst}
use Rattle.painter.specs.declared.operations.Operation.{Operation}
use Rattle.painter.specs.declared.operations.Operation.TheVariants.{Intersection, Union, Difference}
use Rattle.lookups.specs.declared.neighbours.Direction.TheVariants.{North, NorthEast, East, South, SouthWest, NorthWest}

-- the picture P, of size 2
abbrev P : List ℕ
P = 257 ∷ 262144 ∷ 327680 ∷ 393216 ∷ 458753 ∷ 524544 ∷ 786689 ∷ []

abbrev answers : List (Answer ℕ)
answers =
    list_check 2 P
    ∷ list_check 1 (1 ∷ 65537 ∷ 131073 ∷ 196609 ∷ [])
    ∷ list_check 1 (0 ∷ 65536 ∷ 131072 ∷ [])
    ∷ list_check 1 []
    ∷ list_check 1 (512 ∷ [])
    ∷ list_check 2 (0 ∷ 65792 ∷ [])
    ∷ list_check 0 (0 ∷ 65536 ∷ [])
    ∷ list_check 12 (3072 ∷ [])
    ∷ list_check 13 (3328 ∷ [])
    ∷ cell_lookup 2 P (pos 0) (pos 1)
    ∷ cell_lookup 2 P (pos 0) (pos 2)
    ∷ cell_lookup 2 P (pos 1) (pos 3)
    ∷ cell_lookup 2 P (negsuc 0) (pos 0)
    ∷ cell_lookup 2 P (pos 0) (pos 4)
    ∷ cell_lookup 1 (0 ∷ []) (negsuc 0) (pos 0)
    ∷ neighbour 3 27 0 East
    ∷ neighbour 3 27 0 South
    ∷ neighbour 3 27 0 NorthWest
    ∷ neighbour 2 12 1 NorthWest
    ∷ neighbour 2 0 1 North
    ∷ neighbour 2 4 1 NorthEast
    ∷ neighbour 2 8 1 SouthWest
    ∷ neighbour 2 2 1 East
    ∷ neighbour 2 16 0 East
    ∷ neighbour 2 0 3 East
    ∷ neighbour 13 0 0 East
    ∷ []

pub cases :
    answers
    ≡ gives 7
    ∷ gives 4
    ∷ refuses 3 3
    ∷ refuses 3 0
    ∷ refuses 3 0
    ∷ refuses 3 1
    ∷ refuses 3 1
    ∷ gives 1
    ∷ refuses 1 0
    ∷ gives 1
    ∷ gives 0
    ∷ gives 1
    ∷ refuses 9 0
    ∷ refuses 9 0
    ∷ refuses 3 1
    ∷ gives 30
    ∷ gives 49
    ∷ gives 24
    ∷ gives 0
    ∷ refuses 9 0
    ∷ refuses 9 0
    ∷ refuses 9 0
    ∷ refuses 12 0
    ∷ refuses 12 0
    ∷ refuses 12 0
    ∷ refuses 1 0
    ∷ []
unfolding list_check cell_lookup neighbour checked_from colour_in colour_at interleaved gathered
cases = refl

-- P as a raster
abbrev cells : List ℕ
cells = 1 ∷ 1 ∷ 0 ∷ 0 ∷ 1 ∷ 1 ∷ 0 ∷ 1 ∷ 0 ∷ 0 ∷ 1 ∷ 1 ∷ 0 ∷ 0 ∷ 1 ∷ 1 ∷ []

-- raster to list and back: with room, with exactly enough, with too little; an unmerged list comes out merged
abbrev outcomes : List Outcome
outcomes =
    raster_to_list 2 cells 16
    ∷ raster_to_list 2 cells 7
    ∷ raster_to_list 2 cells 6
    ∷ raster_to_list 1 cells 16
    ∷ raster_to_list 0 (5 ∷ []) 1
    ∷ raster_to_list 13 [] 0
    ∷ list_to_raster 2 P 16
    ∷ list_to_raster 2 P 15
    ∷ list_to_raster 1 (0 ∷ []) 4
    ∷ list_to_raster 1 (1 ∷ 65537 ∷ 131073 ∷ 196609 ∷ []) 4
    ∷ raster_to_list 1 (1 ∷ 1 ∷ 1 ∷ 1 ∷ []) 1
    ∷ []

pub rasters :
    outcomes
    ≡ gives P
    ∷ gives P
    ∷ refuses 5 7
    ∷ refuses 10 0
    ∷ gives (5 ∷ [])
    ∷ refuses 1 0
    ∷ gives cells
    ∷ refuses 10 0
    ∷ refuses 3 1
    ∷ gives (1 ∷ 1 ∷ 1 ∷ 1 ∷ [])
    ∷ gives (257 ∷ [])
    ∷ []
unfolding raster_to_list list_to_raster shortest uniform all pixel raster_of places checked_from colour_at interleaved gathered
rasters = refl

-- S, one black leaf of size 1
abbrev S : List ℕ
S = 257 ∷ []

-- S on P at a shift, over P's own square
abbrev on : Operation → ℤ → ℤ → ℕ → Outcome
on o dy dx space = overlaid o 2 P 1 S (record { dy = dy; dx = dx }) OfFirst space

abbrev seen : ℤ → ℤ → ℕ → ℕ → Outcome
seen wy wx size space = windowed 2 P (record { wy = wy; wx = wx; size = size }) space

-- overlays and windows, and each of their refusals
abbrev overlays : List (Answer ℕ)
overlays =
    written (on Intersection (pos 1) (pos 1) 16)
    ∷ written (on Union (pos 1) (pos 1) 16)
    ∷ written (on Difference (pos 1) (pos 1) 16)
    ∷ written (on Intersection (pos 1) (pos 1) 9)
    ∷ written (on Intersection (pos 1) (pos 1) 10)
    ∷ written (on Intersection (pos 4) (pos 0) 16)
    ∷ written (seen (pos 0) (pos 0) 3 64)
    ∷ written (on Union (pos 65537) (pos 65537) 16)
    ∷ written (on Union (pos 65536) (negsuc 65536) 16)
    ∷ written (seen (negsuc 65536) (pos 0) 13 16)
    ∷ written (seen (negsuc 65536) (pos 0) 1 16)
    ∷ written (seen (pos 0) (pos 65537) 1 16)
    ∷ written (overlaid Union 13 P 13 S (record { dy = pos 0; dx = pos 0 }) OfFirst 16)
    ∷ written (overlaid Union 2 P 13 S (record { dy = pos 0; dx = pos 0 }) OfFirst 16)
    ∷ written (overlaid Union 1 P 1 S (record { dy = pos 0; dx = pos 0 }) OfFirst 16)
    ∷ written (overlaid Union 2 P 2 S (record { dy = pos 0; dx = pos 0 }) OfFirst 16)
    ∷ []

pub overlaying :
    overlays
    ≡ gives 10
    ∷ gives 10
    ∷ gives 13
    ∷ refuses 5 10
    ∷ gives 10
    ∷ gives 1
    ∷ gives 10
    ∷ refuses 2 0
    ∷ refuses 2 1
    ∷ refuses 1 2
    ∷ refuses 2 2
    ∷ refuses 2 3
    ∷ refuses 1 0
    ∷ refuses 1 1
    ∷ refuses 3 1
    ∷ refuses 4 1
    ∷ []
unfolding overlaid windowed shortest uniform all checked_from colour_in colour_at interleaved gathered
overlaying = refl

-- the lists themselves: black at codes 03 and 30 only; one WHITE leaf; P's corner seen from outside; a list that comes out merged
pub lists :
    (on Intersection (pos 1) (pos 1) 16 ∷ on Intersection (pos 4) (pos 0) 16 ∷ seen (negsuc 0) (negsuc 0) 1 4
    ∷ windowed 1 (1 ∷ 65537 ∷ 131073 ∷ 196609 ∷ []) (record { wy = pos 0; wx = pos 0; size = 1 }) 4 ∷ [])
    ≡ gives (0 ∷ 65536 ∷ 131072 ∷ 196609 ∷ 262400 ∷ 524544 ∷ 786433 ∷ 851968 ∷ 917504 ∷ 983040 ∷ [])
    ∷ gives (512 ∷ [])
    ∷ gives (0 ∷ 65536 ∷ 131072 ∷ 196609 ∷ [])
    ∷ gives (257 ∷ [])
    ∷ []
unfolding overlaid windowed shortest uniform all checked_from colour_in colour_at interleaved gathered
lists = refl
