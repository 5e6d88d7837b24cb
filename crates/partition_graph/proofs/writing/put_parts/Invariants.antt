use Rattle.std.proofs.Common.{◌≡◌, ◌++◌}
use Rattle.std.specs.List.{flat_map, range_with_len}
use Rattle.partition_graph.specs.Picture.{part_line}
use Rattle.partition_graph.specs.Private.Counting.{texts}
use Rattle.partition_graph.proofs.writing.put_parts.Given as goal

abbrev pub invariant-loop-p : goal.invariant-loop-p
invariant-loop-p l = l.out.items ≡ l.fn.out.items ++ flat_map (part_line l.n.net l.c (texts l.groups)) (range_with_len 0 l.p)
