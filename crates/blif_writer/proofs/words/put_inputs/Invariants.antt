use Rattle.std.proofs.Common.{◌≡◌, ◌++◌, drop}
use Rattle.blif_writer.specs.Left.{spaced}
use Rattle.blif_writer.proofs.words.put_inputs.Given as goal

abbrev pub invariant-loop-x : goal.invariant-loop-x
invariant-loop-x l = l.out.items ++ spaced (drop l.x l.net.net.inputs) ≡ l.fn.out.items ++ spaced l.net.net.inputs
