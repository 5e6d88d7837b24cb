use Rattle.std.proofs.Common.{◌≡◌, ◌++◌, map}
use Rattle.std.specs.List.{range_with_len, flat_map}
use Rattle.flat_net.specs.Nodes.{number_of}
use Rattle.hardened_pair.specs.Private.Layouts.{net_of, partitions, voted}
use Rattle.triplicate.specs.Construction.{block_nets}
use Rattle.hardened_pair.proofs.ordering.push_inputs.Given as goal

abbrev pub invariant-loop-x : goal.invariant-loop-x
invariant-loop-x l = map number_of l.order.items ≡ map number_of l.fn.order.items ++ flat_map (block_nets (net_of l.layout) (partitions l.layout) (voted l.layout)) (range_with_len 0 l.x)
