use Rattle.partition_graph.specs.Private.Leading.{AreLeading}
use Rattle.partition_graph.proofs.groups.leads.Given as goal

abbrev pub invariant-loop-x : goal.invariant-loop-x
invariant-loop-x l = AreLeading l.n.net l.c l.x l.leads.items
