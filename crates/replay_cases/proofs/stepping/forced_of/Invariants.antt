use Rattle.std.proofs.Common.{◌<◌}
use Rattle.std.specs.Prelude.{All}
use Rattle.flat_net.specs.Net.{net_count}
use Rattle.replay_cases.proofs.stepping.forced_of.Given as goal

abbrev pub invariant-loop-word : goal.invariant-loop-word
invariant-loop-word l = All (λ f. f.0.0 < net_count l.net.net) l.forced.items
