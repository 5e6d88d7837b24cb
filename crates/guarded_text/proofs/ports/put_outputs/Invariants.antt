use Rattle.std.proofs.Common.{◌≡◌, ◌++◌, drop}
use Rattle.std.specs.List.{flat_map}
use Rattle.flat_net.specs.Net.{name_of}
use Rattle.guarded_text.specs.Private.Spelled.{two_spelled}
use Rattle.guarded_text.proofs.ports.put_outputs.Given as goal

abbrev pub invariant-loop-k : goal.invariant-loop-k
invariant-loop-k l = l.out.items ++ flat_map (λ y. two_spelled (name_of l.n.net y)) (drop l.k l.n.net.outputs) ≡ l.fn.out.items ++ flat_map (λ y. two_spelled (name_of l.n.net y)) l.n.net.outputs
