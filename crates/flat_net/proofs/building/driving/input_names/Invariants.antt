use Rattle.std.proofs.Common.{◌≡◌, take}
use Rattle.flat_net.proofs.building.driving.input_names.Given as goal

abbrev pub invariant-loop-input : goal.invariant-loop-input
invariant-loop-input l = l.names.keys ≡ take l.input-index l.inputs
