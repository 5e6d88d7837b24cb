use Rattle.std.proofs.Common.{◌≡◌, ◌++◌, map, filter, take}
use Rattle.std.specs.List.{flat_map}
use Rattle.flat_net.specs.Nodes.{number_of}
use Rattle.hardened_pair.specs.Private.Layouts.{net_of, partitions, voted, is_of_kind}
use Rattle.triplicate.specs.Construction.{block_nets}
use Rattle.hardened_pair.proofs.ordering.push_kind.Given as goal

abbrev pub invariant-loop-i : goal.invariant-loop-i
invariant-loop-i l = map number_of l.order.items ≡ map number_of l.fn.order.items ++ flat_map (block_nets (net_of l.layout) (partitions l.layout) (voted l.layout)) (filter (is_of_kind (net_of l.layout) l.registers) (take l.i l.layout.net.now.order))
