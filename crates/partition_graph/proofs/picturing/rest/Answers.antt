use Rattle.std.proofs.Common.{◌≡◌, length, sym, arith}
use Rattle.certificate.specs.Cert.{depth_of}
use Rattle.partitioner.proofs.BelowLaws.{sum_none}
use Rattle.partition_graph.specs.Places.{nodes_in}
use Rattle.partition_graph.specs.Picture.{if_not_drawn, registers_in, one}
use Rattle.partition_graph.proofs.CountLaws.{max_none}
use Rattle.partition_graph.proofs.BoxLaws.{rest_more, deepest_more, rest_is, deepest_is}
use Rattle.partition_graph.proofs.picturing.rest.Goals as goal

pub loop-p-init : goal.loop-p-init
loop-p-init c = record {
  count = sym (sum_none (if_not_drawn c.args.c.now one));
  nodes = sym (sum_none (if_not_drawn c.args.c.now (nodes_in c.args.c.now)));
  registers = sym (sum_none (if_not_drawn c.args.c.now (registers_in c.args.n.now.net c.args.c.now)));
  depth = sym (max_none (if_not_drawn c.args.c.now (depth_of c.args.c.now)));
  few = omega arith;
  few_nodes = omega arith;
  few_registers = omega arith;
}

pub loop-p-preserved : goal.loop-p-preserved
loop-p-preserved c =
    let k = c.args.c.now in
    record {
      count = rest_more c.args.c.now one c.loop-p.p c.loop-p.rest.count c.add_rest.new.rest.count c.loop-p.invariant.count c.add_rest.ensures.count;
      nodes = rest_more c.args.c.now (nodes_in c.args.c.now) c.loop-p.p c.loop-p.rest.nodes c.add_rest.new.rest.nodes c.loop-p.invariant.nodes c.add_rest.ensures.nodes;
      registers = rest_more c.args.c.now (registers_in c.args.n.now.net c.args.c.now) c.loop-p.p c.loop-p.rest.registers c.add_rest.new.rest.registers c.loop-p.invariant.registers c.add_rest.ensures.registers;
      depth = deepest_more c.args.c.now (depth_of c.args.c.now) c.loop-p.p c.loop-p.rest.depth c.add_rest.new.rest.depth c.loop-p.invariant.depth c.add_rest.ensures.depth;
      few = c.add_rest.ensures.few;
      few_nodes = c.add_rest.ensures.few_nodes;
      few_registers = c.add_rest.ensures.few_registers;
    }

pub returns : goal.returns
returns c =
    let end : c.loop-p.p ≡ length c.args.c.now.depth = omega (arith, c.loop-p-test.false, c.loop-p.auto.p-end, c.parts-p-end.ensures.count) in
    record {
      count = rest_is c.args.c.now one c.loop-p.p c.loop-p.rest.count end c.loop-p.invariant.count;
      nodes = rest_is c.args.c.now (nodes_in c.args.c.now) c.loop-p.p c.loop-p.rest.nodes end c.loop-p.invariant.nodes;
      registers = rest_is c.args.c.now (registers_in c.args.n.now.net c.args.c.now) c.loop-p.p c.loop-p.rest.registers end c.loop-p.invariant.registers;
      depth = deepest_is c.args.c.now (depth_of c.args.c.now) c.loop-p.p c.loop-p.rest.depth end c.loop-p.invariant.depth;
    }
