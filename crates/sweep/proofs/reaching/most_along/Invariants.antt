use Rattle.std.proofs.Common.{◌≤◌}
use Rattle.sweep.specs.Private.Reaching.{voted_by, along, IsMostOf}
use Rattle.sweep.proofs.reaching.most_along.Given as goal

abbrev pub invariant-loop-j : goal.invariant-loop-j
invariant-loop-j l = record {
  most : IsMostOf (along l.n.net (voted_by l.n.net l.votes) l.reach l.y) l.j l.most;
  few : l.most ≤ 2147483648;
}
