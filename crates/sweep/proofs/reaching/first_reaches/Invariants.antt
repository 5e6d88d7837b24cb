use Rattle.std.proofs.Common.{◌≡◌, map}
use Rattle.std.specs.List.{range_with_len}
use Rattle.flat_net.specs.Net.{node_of}
use Rattle.sweep.specs.Private.Reaching.{first_reach}
use Rattle.sweep.proofs.reaching.first_reaches.Given as goal

abbrev pub invariant-loop-x : goal.invariant-loop-x
invariant-loop-x l = l.reach.items ≡ map (λ x. first_reach (node_of l.n.net x)) (range_with_len 0 l.x)
