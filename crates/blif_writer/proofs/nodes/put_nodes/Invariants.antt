use Rattle.std.proofs.Common.{◌≡◌, ◌++◌}
use Rattle.blif_writer.specs.Left.{nodes_left}
use Rattle.blif_writer.specs.Marks.{net_in, marks_in}
use Rattle.blif_writer.proofs.nodes.put_nodes.Given as goal

abbrev pub invariant-loop-i : goal.invariant-loop-i
invariant-loop-i l = l.out.items ++ nodes_left (net_in l.design) (marks_in l.design) l.i ≡ l.fn.out.items ++ nodes_left (net_in l.design) (marks_in l.design) 0
