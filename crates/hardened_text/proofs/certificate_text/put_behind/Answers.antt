use Rattle.std.proofs.Common.{ℕ, List, ◌-◌, ◌++◌, length, ap, ◌∙◌, arith}
use Rattle.flat_net.specs.Net.{Design}
use Rattle.triplicate.specs.Planned.{plan_votes}
use Rattle.hardened_text.specs.Private.Lines.{node_text, voters_text}
use Rattle.hardened_text.proofs.Steps.{behind_node, behind_voters, behind_end}
use Rattle.hardened_text.proofs.certificate_text.put_behind.Goals as goal

pub returns-then-step-from : goal.returns-then-step-from
returns-then-step-from c =
    let p = c.args.form.now.plan in
    c.in_ok-put_node_of.ensures ∙ ap (λ (t : List ℕ). c.args.out.now.items ++ t)
    (ap (λ (d : Design). node_text d.net p.parts p.extra.table.labels c.args.step) c.net-net.ensures.net
    ∙ behind_node c.args.n.now.design.net p c.args.step (omega (arith, c.if-step-from.true, c.from.ensures, c.nodes_of-nodes.ensures.count, ap (λ (d : Design). length d.net.nodes) c.net-net.ensures.net)))

pub returns-then-x-from : goal.returns-then-x-from
returns-then-x-from c =
    let p = c.args.form.now.plan in
    let nodes = ap (λ (d : Design). length d.net.nodes) c.net-net.ensures.net in
    let inputs = ap (λ (d : Design). length d.net.inputs) c.net-net.ensures.net in
    c.in_ok-put_voters_of.ensures ∙ ap (λ (t : List ℕ). c.args.out.now.items ++ t)
    (ap (λ (d : Design). voters_text d.net p.parts (plan_votes d.net p) (c.args.step - c.from-2.result)) c.net-net.ensures.net
    ∙ behind_voters c.args.n.now.design.net p c.args.step (c.args.step - c.from-2.result) (omega (arith, c.from-2.ensures, c.nodes_of-nodes.ensures.count, nodes))
    (omega (arith, c.if-step-from.false, c.from.ensures, c.nodes_of-nodes.ensures.count, nodes)) (omega (arith, c.if-x-from.true, c.from-3.ensures, c.input_count.ensures.count, c.nodes_of-nodes.ensures.count, nodes, inputs)))

pub returns : goal.returns
returns c =
    let nodes = ap (λ (d : Design). length d.net.nodes) c.net-net.ensures.net in
    let inputs = ap (λ (d : Design). length d.net.inputs) c.net-net.ensures.net in
    c.in_ok-extend_from_slice.ensures.items ∙ ap (λ (t : List ℕ). c.args.out.now.items ++ t)
    (behind_end c.args.n.now.design.net c.args.form.now.plan c.args.step (omega (arith, c.if-step-from.false, c.from.ensures, c.nodes_of-nodes.ensures.count, nodes))
    (omega (arith, c.if-x-from.false, c.from-2.ensures, c.from-3.ensures, c.input_count.ensures.count, c.nodes_of-nodes.ensures.count, nodes, inputs)))
