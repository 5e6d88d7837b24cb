use Rattle.std.proofs.Common.{◌≡◌, ◌++◌}
use Rattle.std.specs.List.{flat_map}
use Rattle.partition_graph.specs.Picture.{edge_line}
use Rattle.partition_graph.proofs.writing.put_edges.Given as goal

abbrev pub invariant-loop-from : goal.invariant-loop-from
invariant-loop-from l = l.out.items ++ flat_map (edge_line l.parts) l.from-iterator ≡ l.fn.out.items ++ flat_map (edge_line l.parts) l.edges.entries
