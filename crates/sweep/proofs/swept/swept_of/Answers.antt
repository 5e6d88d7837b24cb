use Rattle.std.proofs.Common.{List, ℕ, refl, ap, ◌∙◌}
use Rattle.std.specs.Prelude.{nat_eq}
use Rattle.sweep.specs.Sweep.{greatest}
use Rattle.sweep.proofs.SweepLaws.{swept_is, few_nodes, plan_certified}
use Rattle.sweep.proofs.swept.swept_of.Goals as goal

pub overflow_sub-result : goal.overflow_sub-result
overflow_sub-result c =
    few_nodes c.args.asked.form c.args.net.now.net c.args.asked.size (nat_eq c.args.asked.version 2) c.args.most c.args.plan.now c.nets.result c.input_count.result c.nodes_of-count.result c.requires.plan c.nets.ensures c.input_count.ensures.count c.nodes_of-count.ensures.count

pub near_all-requires-clause-cert : goal.near_all-requires-clause-cert
near_all-requires-clause-cert c = plan_certified c.args.asked.form c.args.net.now.net c.args.asked.size (nat_eq c.args.asked.version 2) c.args.most c.args.plan.now c.ranges.most.fits c.requires.plan c.in_ok-depths.ensures.small

pub returns : goal.returns
returns c =
    swept_is c.args.asked.form c.args.n.now c.args.net.now c.args.asked.size c.args.asked.version c.args.most c.args.plan.now _ c.nets.result c.input_count.result c.nodes_of-count.result c.requires.version c.ranges.most.fits c.requires.same c.nodes_of-count.ensures.design c.requires.plan c.nets.ensures c.input_count.ensures.count c.nodes_of-count.ensures.count
    c.in_ok-depths.ensures.small refl c.count.ensures refl (c.greatest.ensures ∙ ap (λ (ds : List ℕ). greatest ds) (c.deref.ensures.value ∙ c.in_ok-depths.ensures.depths)) c.in_ok-levels.ensures c.near_all.ensures
