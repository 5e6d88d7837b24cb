use Rattle.std.proofs.Common.{◌≡◌, take}
use Rattle.partition_graph.proofs.places.part_list.Given as goal

abbrev pub invariant-loop-x : goal.invariant-loop-x
invariant-loop-x l = l.of.items ≡ take l.x l.c.part
