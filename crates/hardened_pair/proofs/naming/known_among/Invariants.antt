use Rattle.std.proofs.Common.{◌≤◌}
use Rattle.hardened_pair.proofs.naming.known_among.Given as goal

abbrev pub invariant-loop-k : goal.invariant-loop-k
invariant-loop-k l = l.known ≤ l.k
