use Rattle.std.proofs.Common.{◌≡◌}
use Rattle.std.specs.List.{sum_by, range_with_len}
use Rattle.exposure.specs.Counts.{near_in}
use Rattle.exposure.proofs.nearness.near_parts.Given as goal

abbrev pub invariant-loop-p : goal.invariant-loop-p
invariant-loop-p l = l.total ≡ sum_by (near_in l.c) (range_with_len 0 l.p)
