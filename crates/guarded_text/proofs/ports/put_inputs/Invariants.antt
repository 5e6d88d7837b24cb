use Rattle.std.proofs.Common.{◌≡◌, ◌++◌, drop}
use Rattle.std.specs.List.{flat_map}
use Rattle.guarded_text.specs.Private.Spelled.{two_spelled}
use Rattle.guarded_text.proofs.ports.put_inputs.Given as goal

abbrev pub invariant-loop-x : goal.invariant-loop-x
invariant-loop-x l = l.out.items ++ flat_map two_spelled (drop l.x l.n.net.inputs) ≡ l.fn.out.items ++ flat_map two_spelled l.n.net.inputs
