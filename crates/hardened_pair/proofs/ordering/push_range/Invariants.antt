use Rattle.std.proofs.Common.{◌≡◌, ◌++◌, ◌-◌, map}
use Rattle.std.specs.List.{range_with_len}
use Rattle.flat_net.specs.Nodes.{number_of}
use Rattle.hardened_pair.proofs.ordering.push_range.Given as goal

abbrev pub invariant-loop-g : goal.invariant-loop-g
invariant-loop-g l = map number_of l.order.items ≡ map number_of l.fn.order.items ++ range_with_len l.start (l.g - l.start)
