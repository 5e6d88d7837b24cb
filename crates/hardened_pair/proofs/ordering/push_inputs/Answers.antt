use Rattle.std.proofs.Common.{map}
use Rattle.flat_net.specs.Nodes.{number_of}
use Rattle.hardened_pair.specs.Private.Layouts.{net_of, partitions, voted}
use Rattle.triplicate.specs.Construction.{block_nets}
use Rattle.hardened_pair.proofs.Pushing.{blocks_one_more}
use Rattle.hardened_pair.proofs.ordering.push_inputs.Goals as goal

pub loop-x-preserved : goal.loop-x-preserved
loop-x-preserved c = blocks_one_more (block_nets (net_of c.args.layout.now) (partitions c.args.layout.now) (voted c.args.layout.now)) (map number_of c.args.order.now.items) (map number_of c.loop-x.order.items) (map number_of c.push_block.new.order.items) c.loop-x.x c.loop-x.invariant c.in_ok-push_block.ensures
