use Rattle.std.proofs.Common.{◌≡◌, ◌+◌, ◌++◌, length, drop, map}
use Rattle.aag_text.specs.Same.{registers, registers_from}
use Rattle.aag_text.specs.Private.Nets.{latch_at}
use Rattle.aag_text.proofs.nets.latches_of.Given as goal

abbrev pub invariant-loop-i : goal.invariant-loop-i
invariant-loop-i l = l.latches.items ++ map (latch_at l.n.design.net l.n.free l.literals) (registers_from (length l.n.design.net.inputs + l.i) (drop l.i l.n.design.net.nodes)) ≡ map (latch_at l.n.design.net l.n.free l.literals) (registers l.n.design.net)
