use Rattle.std.proofs.Common.{◌≡◌, map}
use Rattle.std.specs.List.{range_with_len}
use Rattle.partition_graph.specs.Private.Leading.{has_lead}
use Rattle.partition_graph.proofs.groups.agreeing.Given as goal

abbrev pub invariant-loop-x : goal.invariant-loop-x
invariant-loop-x l = l.bits.items ≡ map (has_lead l.n.net l.c l.leads) (range_with_len 0 l.x)
