-- What is promised of the numbers: each stands for one answer, and is read back by its higher and its lower half.
use Rattle.std.specs.Prelude.{◌≡◌, List, ℕ, ℤ}
use Rattle.shortest.specs.Outcome.{written}
use Rattle.place.specs.declared.Shift.{Shift}
use Rattle.painter.specs.declared.operations.Operation.{Operation}
use Rattle.lookups.specs.Lists.{list_check, cell_lookup}
use Rattle.lookups.specs.Neighbour.{neighbour}
use Rattle.lookups.specs.declared.neighbours.Direction.{Direction}
use Rattle.conversions.specs.Rasters.{raster_to_list, list_to_raster}
use Rattle.overlays.specs.Overlay.{overlaid, windowed}
use Rattle.overlays.specs.declared.Window.{Window}
use Rattle.overlays.specs.declared.Frame.{Frame}
use Rattle.capi.specs.Code.{coded}
use Rattle.capi.specs.Below.{decoded}
use Rattle.capi.specs.Laws.Below.{read_back, check_below, lookup_below, neighbour-below, list_below, raster_below, window_below, overlay_below, below-written}

pub check_decoded : (n : ℕ) (l : List ℕ) → decoded (coded (list_check n l)) ≡ list_check n l
check_decoded n l = read_back _ (check_below n l)

pub lookup_decoded : (n : ℕ) (l : List ℕ) (row column : ℤ) → decoded (coded (cell_lookup n l row column)) ≡ cell_lookup n l row column
lookup_decoded n l row column = read_back _ (lookup_below n l row column)

pub neighbour-decoded : (n k level : ℕ) (d : Direction) → decoded (coded (neighbour n k level d)) ≡ neighbour n k level d
neighbour-decoded n k level d = read_back _ (neighbour-below n k level d)

pub window_decoded : (n : ℕ) (a : List ℕ) (w : Window) (space : ℕ) → decoded (coded (written (windowed n a w space))) ≡ written (windowed n a w space)
window_decoded n a w space = read_back _ (below-written (windowed n a w space) (window_below n a w space))

pub overlay_decoded : (o : Operation) (n : ℕ) (a : List ℕ) (m : ℕ) (b : List ℕ) (s : Shift) (f : Frame) (space : ℕ)
    → decoded (coded (written (overlaid o n a m b s f space))) ≡ written (overlaid o n a m b s f space)
overlay_decoded o n a m b s f space = read_back _ (below-written (overlaid o n a m b s f space) (overlay_below o n a m b s f space))

pub list_decoded : (n : ℕ) (cells : List ℕ) (space : ℕ) → decoded (coded (written (raster_to_list n cells space))) ≡ written (raster_to_list n cells space)
list_decoded n cells space = read_back _ (below-written (raster_to_list n cells space) (list_below n cells space))

pub raster_decoded : (n : ℕ) (l : List ℕ) (space : ℕ) → decoded (coded (written (list_to_raster n l space))) ≡ written (list_to_raster n l space)
raster_decoded n l space = read_back _ (below-written (list_to_raster n l space) (raster_below n l space))
