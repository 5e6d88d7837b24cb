use Rattle.std.proofs.Common.{◌≡◌, map, take}
use Rattle.feedback_cut.specs.Private.SelfReads.{self_read}
use Rattle.feedback_cut.proofs.self_reads.self_reads.Given as goal

abbrev pub invariant-loop-x : goal.invariant-loop-x
invariant-loop-x l = l.row.items ≡ map (self_read l.n.net l.groups.of l.y) (take l.x-index l.reads)
