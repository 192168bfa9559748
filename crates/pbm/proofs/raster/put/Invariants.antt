-- `pbm::raster::put` meets its contract. The loop keeps: with the cells of what is left stored from the count on, the memory is as it is to be.
use Rattle.std.proofs.Common.{◌≡◌, true, length, ◌+◌, ◌≤◌}
use Rattle.std.proofs.lemmas.List.Edits.{sets}
use Rattle.std.specs.Slice.Iter.{iter_rest}
use Rattle.pbm.specs.Reading.{cells, only_cells}
use Rattle.pbm.proofs.raster.put.Given as goal

abbrev pub invariant-loop-k : goal.invariant-loop-k
invariant-loop-k l = record {
  only : only_cells (iter_rest l.k-iterator.iter.iter) ≡ true;
  room : l.k-iterator.count + length (cells (iter_rest l.k-iterator.iter.iter)) ≤ length l.initial.out;
  stored : sets l.out l.k-iterator.count (cells (iter_rest l.k-iterator.iter.iter)) ≡ sets l.initial.out 0 (cells l.text);
}
