use Rattle.std.proofs.Common.{map, arith}
use Rattle.flat_net.specs.Nodes.{number_of}
use Rattle.hardened_pair.specs.Private.Layouts.{net_of, partitions, voted}
use Rattle.triplicate.proofs.Places.{copy_few}
use Rattle.hardened_pair.proofs.Assembly.{outputs_more}
use Rattle.hardened_pair.proofs.assembling.hardened_outputs.Goals as goal

pub push_three-requires : goal.push_three-requires
push_three-requires c = omega (arith, c.first_copy-copy.ensures, c.requires.room.nets, copy_few (net_of c.args.layout.now) (partitions c.args.layout.now) (voted c.args.layout.now) c.output-output.result.0 c.output-output.ensures.range)

pub loop-k-preserved : goal.loop-k-preserved
loop-k-preserved c = outputs_more (net_of c.args.layout.now) (partitions c.args.layout.now) (voted c.args.layout.now) (map number_of c.loop-k.outputs.items) (map number_of c.push_three.new.outputs.items) c.loop-k.k c.output-output.result.0 c.first_copy-copy.result c.output-output.ensures.output c.first_copy-copy.ensures c.loop-k.invariant c.in_ok-push_three.ensures
