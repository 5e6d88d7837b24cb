use Rattle.std.proofs.Common.{◌≡◌}
use Rattle.replay_cases.proofs.stepping.right_steps.Given as goal

abbrev pub invariant-loop-t : goal.invariant-loop-t
invariant-loop-t l = l.sim.net ≡ l.net.net
