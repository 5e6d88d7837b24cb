use Rattle.std.proofs.Common.{◌≡◌, ◌≤◌, ◌*◌, ℕ, length, slice_index}
use Rattle.partitioner.specs.Below.{sum_below}
use Rattle.partitioner.specs.Cost.{foreign_count}
use Rattle.partitioner.proofs.costs.pairs.pairs_in.Given as goal

abbrev pub invariant-loop-x : goal.invariant-loop-x
invariant-loop-x l = record {
  total : l.total ≡ sum_below l.x (foreign_count l.n.net (record { count = l.count; of = l.of }));
  few : l.total ≤ l.x * l.count;
  long : length l.last.items ≡ l.count;
  past : (q : ℕ) → slice_index l.last.items q ≤ l.x;
}
