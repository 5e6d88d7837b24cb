use Rattle.std.proofs.Common.{◌≡◌, map}
use Rattle.std.specs.List.{range_with_len}
use Rattle.flat_net.specs.Nodes.{number_of}
use Rattle.dwc.proofs.comparing.numbers_from.Given as goal

abbrev pub invariant-loop-k : goal.invariant-loop-k
invariant-loop-k l = map number_of l.numbers.items ≡ range_with_len l.first l.k
