use Rattle.std.proofs.Common.{◌≡◌, ◌+◌, ◌++◌, ◌≤◌, length, drop}
use Rattle.aag_text.specs.Private.Nets.{node_literals, first_literals}
use Rattle.aag_text.proofs.nets.first_literals.Given as goal

abbrev pub invariant-loop-i : goal.invariant-loop-i
invariant-loop-i l = record {
  same : l.literals.items ++ node_literals l.next (drop l.i l.n.net.nodes) ≡ first_literals l.n.net;
  bound : l.next ≤ length l.n.net.inputs + 1 + l.i;
}
