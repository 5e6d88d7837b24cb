use Rattle.std.proofs.Common.{◌≡◌, map}
use Rattle.std.specs.List.{range_with_len}
use Rattle.feedback_cut.specs.Private.SelfReads.{self_row}
use Rattle.feedback_cut.proofs.self_reads.with_self_reads.Given as goal

abbrev pub invariant-loop-y : goal.invariant-loop-y
invariant-loop-y l = l.selves ≡ map (self_row l.n.net l.groups.of l.graph) (range_with_len 0 l.y)
