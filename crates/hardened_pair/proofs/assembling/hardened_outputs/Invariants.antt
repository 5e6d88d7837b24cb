use Rattle.std.proofs.Common.{◌≡◌, map, take}
use Rattle.std.specs.List.{flat_map}
use Rattle.flat_net.specs.Nodes.{number_of}
use Rattle.hardened_pair.specs.Private.Layouts.{net_of, partitions, voted}
use Rattle.triplicate.specs.Blocks.{threefold}
use Rattle.triplicate.specs.Numbers.{copy_net}
use Rattle.hardened_pair.proofs.assembling.hardened_outputs.Given as goal

abbrev pub invariant-loop-k : goal.invariant-loop-k
invariant-loop-k l = map number_of l.outputs.items ≡ flat_map (λ x. threefold (copy_net (net_of l.layout) (partitions l.layout) (voted l.layout) x)) (take l.k (net_of l.layout).outputs)
