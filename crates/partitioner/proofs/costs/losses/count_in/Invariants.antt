use Rattle.std.proofs.Common.{◌≡◌, ◌==◌, take, slice_index}
use Rattle.std.specs.List.{count_by}
use Rattle.partitioner.proofs.costs.losses.count_in.Given as goal

abbrev pub invariant-loop-y : goal.invariant-loop-y
invariant-loop-y l = l.count ≡ count_by (λ y. slice_index l.of y == l.q) (take l.y-index l.row)
