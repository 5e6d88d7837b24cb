use Rattle.std.proofs.Common.{◌≡◌, map}
use Rattle.std.specs.List.{range_with_len}
use Rattle.flat_net.specs.Nodes.{number_of}
use Rattle.tmr_trial.proofs.designs.nets.Given as goal

abbrev pub invariant-loop-k : goal.invariant-loop-k
invariant-loop-k l = map number_of l.nets.items ≡ range_with_len l.start l.k
