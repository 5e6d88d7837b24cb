use Rattle.std.proofs.Common.{ℕ, List, ◌-◌, ◌++◌, length, ap, ◌∙◌, arith}
use Rattle.flat_net.specs.Net.{Design}
use Rattle.triplicate.specs.Planned.{plan_votes}
use Rattle.hardened_text.specs.Private.Lines.{block_text}
use Rattle.hardened_text.specs.Private.Steps.{ports_text}
use Rattle.hardened_text.proofs.Steps.{ports_put, design_ports, design_net, design_end}
use Rattle.hardened_text.proofs.design_text.put_step.Goals as goal

pub returns-then-step-eq0 : goal.returns-then-step-eq0
returns-then-step-eq0 c =
    ports_put c.net-net.result.now.net c.args.out.now.items c.put_ports.new.out.items c.in_ok-put_ports.ensures ∙ ap (λ (t : List ℕ). c.args.out.now.items ++ t)
    (ap (λ (d : Design). ports_text d.net) c.net-net.ensures.net ∙ design_ports c.args.n.now c.args.form.now.plan c.args.step (omega (arith, c.if-step-eq0.true)))

pub returns-then-x-from : goal.returns-then-x-from
returns-then-x-from c =
    let p = c.args.form.now.plan in
    let nodes = ap (λ (d : Design). length d.net.nodes) c.net-net.ensures.net in
    let inputs = ap (λ (d : Design). length d.net.inputs) c.net-net.ensures.net in
    c.in_ok-put_block.ensures ∙ ap (λ (t : List ℕ). c.args.out.now.items ++ t)
    (ap (λ (d : Design). block_text d.net p.parts (plan_votes d.net p) c.is_free-free.result (c.args.step - 1)) c.net-net.ensures.net
    ∙ (ap (λ b. block_text c.args.n.now.design.net p.parts (plan_votes c.args.n.now.design.net p) b (c.args.step - 1)) c.is_free-free.ensures
    ∙ design_net c.args.n.now p c.args.step (c.args.step - 1) (omega arith) (omega (arith, c.if-step-eq0.false)) (omega (arith, c.if-x-from.true, c.from.ensures, c.input_count.ensures.count, c.nodes_of.ensures.count, nodes, inputs))))

pub returns : goal.returns
returns c =
    let nodes = ap (λ (d : Design). length d.net.nodes) c.net-net.ensures.net in
    let inputs = ap (λ (d : Design). length d.net.inputs) c.net-net.ensures.net in
    c.in_ok-extend_from_slice.ensures.items ∙ ap (λ (t : List ℕ). c.args.out.now.items ++ t)
    (design_end c.args.n.now c.args.form.now.plan c.args.step (omega (arith, c.if-step-eq0.false)) (omega (arith, c.if-x-from.false, c.from.ensures, c.input_count.ensures.count, c.nodes_of.ensures.count, nodes, inputs)))
