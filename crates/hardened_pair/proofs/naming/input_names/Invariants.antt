use Rattle.std.proofs.Common.{◌≡◌, ◌*◌, take}
use Rattle.triplicate.specs.Blocks.{hardened_inputs}
use Rattle.hardened_pair.proofs.naming.input_names.Given as goal

abbrev pub invariant-loop-i : goal.invariant-loop-i
invariant-loop-i l = l.names.keys ≡ take (3 * l.i) (hardened_inputs l.n.net)
