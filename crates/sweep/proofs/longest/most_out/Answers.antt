use Rattle.std.proofs.Common.{sym, ap}
use Rattle.std.specs.Prelude.{slice_index}
use Rattle.std.proofs.lemmas.Option.{get_or_from_slice_get}
use Rattle.sweep.proofs.ReachLaws.{most_none, most_more}
use Rattle.sweep.proofs.longest.most_out.Goals as goal

pub loop-k-init : goal.loop-k-init
loop-k-init c = most_none (λ k. slice_index c.args.reach.now (slice_index c.args.n.now.net.outputs k))

pub loop-k-preserved : goal.loop-k-preserved
loop-k-preserved c =
    most_more (λ k. slice_index c.args.reach.now (slice_index c.args.n.now.net.outputs k)) c.loop-k.k c.loop-k.most (slice_index c.args.reach.now c.output-x.result.0) c.greater-most.result c.loop-k.invariant
    (ap (slice_index c.args.reach.now) (sym (get_or_from_slice_get c.args.n.now.net.outputs c.loop-k.k c.output-x.result.0 0 c.output-x.ensures.output))) c.greater-most.ensures
