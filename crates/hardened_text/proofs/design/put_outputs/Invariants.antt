use Rattle.std.proofs.Common.{◌≡◌, ◌++◌, drop}
use Rattle.std.specs.List.{flat_map}
use Rattle.flat_net.specs.Net.{name_of}
use Rattle.hardened_text.specs.Private.Spelled.{three_spelled}
use Rattle.hardened_text.proofs.design.put_outputs.Given as goal

abbrev pub invariant-loop-k : goal.invariant-loop-k
invariant-loop-k l = l.out.items ++ flat_map (λ x. three_spelled (name_of l.n.net x)) (drop l.k l.n.net.outputs) ≡ l.fn.out.items ++ flat_map (λ x. three_spelled (name_of l.n.net x)) l.n.net.outputs
