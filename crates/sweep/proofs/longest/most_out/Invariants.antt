use Rattle.std.specs.Prelude.{slice_index}
use Rattle.sweep.specs.Private.Reaching.{IsMostOf}
use Rattle.sweep.proofs.longest.most_out.Given as goal

abbrev pub invariant-loop-k : goal.invariant-loop-k
invariant-loop-k l = IsMostOf (λ k. slice_index l.reach (slice_index l.n.net.outputs k)) l.k l.most
