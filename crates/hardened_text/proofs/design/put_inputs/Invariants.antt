use Rattle.std.proofs.Common.{◌≡◌, ◌++◌, drop}
use Rattle.std.specs.List.{flat_map}
use Rattle.hardened_text.specs.Private.Spelled.{three_spelled}
use Rattle.hardened_text.proofs.design.put_inputs.Given as goal

abbrev pub invariant-loop-x : goal.invariant-loop-x
invariant-loop-x l = l.out.items ++ flat_map three_spelled (drop l.x l.n.net.inputs) ≡ l.fn.out.items ++ flat_map three_spelled l.n.net.inputs
