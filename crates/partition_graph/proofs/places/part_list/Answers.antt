use Rattle.std.proofs.Common.{◌+◌, arith}
use Rattle.partition_graph.proofs.PlaceLaws.{part_more}
use Rattle.partition_graph.proofs.places.part_list.Goals as goal

pub loop-x-preserved : goal.loop-x-preserved
loop-x-preserved c = part_more c.args.c.now c.loop-x.x (c.input_count-inputs.result + c.loop-x.x) c.part.result.0 c.loop-x.of.items _ (omega (arith, c.input_count-inputs.ensures.count, c.requires.inputs)) (omega (arith, c.loop-x-test.true, c.nodes_of-x-end.ensures.count, c.requires.nodes)) c.part.ensures.part c.loop-x.invariant c.in_ok-push.ensures.items
