use Rattle.std.proofs.Common.{◌≡◌, map, take}
use Rattle.aag_text.specs.Private.Nets.{literal_at}
use Rattle.aag_text.proofs.nets.outputs_of.Given as goal

abbrev pub invariant-loop-k : goal.invariant-loop-k
invariant-loop-k l = l.outputs.items ≡ map (literal_at l.literals) (take l.k l.n.net.outputs)
