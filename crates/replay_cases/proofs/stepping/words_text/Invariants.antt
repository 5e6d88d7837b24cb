use Rattle.std.proofs.Common.{◌≡◌}
use Rattle.replay_cases.proofs.stepping.words_text.Given as goal

abbrev pub invariant-loop-step : goal.invariant-loop-step
invariant-loop-step l = l.sim.net ≡ l.net.net
