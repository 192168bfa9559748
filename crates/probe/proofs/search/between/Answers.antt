-- `probe::search::between` meets its contract: the leaf is the last one that does not begin past the code.
use Rattle.probe.proofs.search.between.Goals.{After-partition_point-ahead}
use Rattle.std.proofs.Common.{rules, true, false, ℕ, leb, ◌≡◌}
use Rattle.std.specs.List.{between}
use Rattle.std.specs.List.Sorted.{IsPartitionPoint}
use Rattle.std.proofs.lemmas.List.Sorted.{IsPartitionPoint-from_clause}
use Rattle.tiling.specs.Leaf.{code_of}
use Rattle.probe.specs.Laws.Search.{parted, some_ahead, last_ahead}
use Rattle.probe.proofs.search.between.Goals as goal

point : (c : After-partition_point-ahead) →
    let a = c.args in
    IsPartitionPoint (λ (w : ℕ). leb (code_of w) a.code ≡ true) (λ (w : ℕ). leb (code_of w) a.code ≡ false) (between a.from a.to a.list.now) c.partition_point-ahead.result
point c =
    let a = c.args in
    IsPartitionPoint-from_clause (λ (w : ℕ). leb (code_of w) a.code) _ _ c.partition_point-ahead.ensures.partitioned (parted a.list.now a.code a.from a.to c.requires) (λ x r f h. search rules)

pub overflow_sub-result : goal.overflow_sub-result
overflow_sub-result c = let a = c.args in some_ahead a.list.now a.code a.from a.to c.requires _ (point c)

pub returns : goal.returns
returns c =
    let a = c.args in
    last_ahead a.list.now a.code a.from a.to c.requires _ (point (goal.at.returns c).After-partition_point-ahead) c.partition_point-ahead.ensures.bound
