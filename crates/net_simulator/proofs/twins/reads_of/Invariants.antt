use Rattle.std.proofs.Common.{◌≡◌, map}
use Rattle.std.specs.List.{range_with_len}
use Rattle.net_simulator.specs.Beside.{net_row}
use Rattle.net_simulator.proofs.twins.reads_of.Given as goal

abbrev pub invariant-loop-y : goal.invariant-loop-y
invariant-loop-y l = l.reads ≡ map (net_row l.h.net) (range_with_len 0 l.y)
