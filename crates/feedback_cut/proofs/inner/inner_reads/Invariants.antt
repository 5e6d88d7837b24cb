use Rattle.std.proofs.Common.{◌≡◌, map}
use Rattle.std.specs.List.{range_with_len}
use Rattle.feedback_cut.specs.Inner.{inner_row}
use Rattle.feedback_cut.proofs.inner.inner_reads.Given as goal

abbrev pub invariant-loop-y : goal.invariant-loop-y
invariant-loop-y l = l.graph ≡ map (inner_row l.n.net l.parts) (range_with_len 0 l.y)
