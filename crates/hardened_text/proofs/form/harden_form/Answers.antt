use Rattle.std.proofs.Common.{refl}
use Rattle.std.specs.Prelude.{nat_eq}
use Rattle.hardened_text.proofs.Pairs.{form_is, few_nodes}
use Rattle.hardened_text.proofs.form.harden_form.Goals as goal

pub overflow_sub-result : goal.overflow_sub-result
overflow_sub-result c =
    few_nodes c.args.form c.net-net.result.now.net c.args.size (nat_eq c.args.version 2) c.args.most c.in_ok-plan.plan c.nets.result c.input_count.result c.nodes_of-count.result c.in_ok-plan.ensures c.nets.ensures c.input_count.ensures.count c.nodes_of-count.ensures.count

pub returns : goal.returns
returns c =
    form_is c.args.form c.args.n.now c.net-net.result.now c.args.size c.args.version c.args.most c.in_ok-plan.plan _ c.nets.result c.input_count.result c.nodes_of-count.result c.requires.version c.ranges.most.fits c.net-net.ensures.net c.net-net.ensures.marks c.nodes_of-count.ensures.design c.in_ok-plan.ensures c.nets.ensures c.input_count.ensures.count c.nodes_of-count.ensures.count
    c.in_ok-depths.ensures.depths c.in_ok-depths.ensures.small refl c.count.ensures refl refl refl refl refl
