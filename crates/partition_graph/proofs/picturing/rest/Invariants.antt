use Rattle.std.proofs.Common.{◌≡◌, ◌≤◌, ◌*◌}
use Rattle.partitioner.specs.Below.{sum_below}
use Rattle.certificate.specs.Cert.{depth_of}
use Rattle.partition_graph.specs.Places.{nodes_in, max_below}
use Rattle.partition_graph.specs.Picture.{if_not_drawn, registers_in, one}
use Rattle.partition_graph.proofs.picturing.rest.Given as goal

abbrev pub invariant-loop-p : goal.invariant-loop-p
invariant-loop-p l = record {
  count : l.rest.count ≡ sum_below l.p (if_not_drawn l.c one);
  nodes : l.rest.nodes ≡ sum_below l.p (if_not_drawn l.c (nodes_in l.c));
  registers : l.rest.registers ≡ sum_below l.p (if_not_drawn l.c (registers_in l.n.net l.c));
  depth : l.rest.depth ≡ max_below l.p (if_not_drawn l.c (depth_of l.c));
  few : l.rest.count ≤ l.p;
  few_nodes : l.rest.nodes ≤ l.p * 4294967295;
  few_registers : l.rest.registers ≤ l.p * 4294967295;
}
