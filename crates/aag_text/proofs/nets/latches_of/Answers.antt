use Rattle.std.proofs.Common.{◌∙◌, ◌+◌, ◌++◌, ℕ, ap, arith}
use Rattle.aag_text.specs.Private.Nets.{latches_at}
use Rattle.aag_text.proofs.Latches.{latches_more, inputs_are, count_is}
use Rattle.aag_text.proofs.nets.latches_of.Goals as goal

pub loop-i-preserved : goal.loop-i-preserved
loop-i-preserved c =
    let inputs = inputs_are c.net-net.result.now c.args.n.now.design c.input_count-inputs.result c.net-net.ensures.net c.input_count-inputs.ensures.count in
    let count = count_is c.net-net.result.now c.args.n.now.design c.node_count-i-end.result c.net-net.ensures.net c.node_count-i-end.ensures in
    latches_more c.args.n.now.design.net c.args.n.now.free c.args.literals.now c.loop-i.i c.loop-i.latches.items c.push_latch.new.latches.items _
    (omega (arith, c.loop-i-test.true, count))
    (c.in_ok-push_latch.ensures ∙ ap (λ (m : ℕ). c.loop-i.latches.items ++ latches_at c.args.n.now.design.net c.args.n.now.free c.args.literals.now (m + c.loop-i.i)) inputs)
    c.loop-i.invariant
