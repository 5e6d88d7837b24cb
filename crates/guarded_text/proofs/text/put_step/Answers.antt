use Rattle.std.proofs.Common.{ℕ, List, ◌-◌, ◌++◌, ap, ◌∙◌, arith}
use Rattle.guarded_text.proofs.Steps.{ports_put, guarded_ports, guarded_twins, guarded_compared}
use Rattle.guarded_text.proofs.text.put_step.Goals as goal

pub returns-then-step-eq0 : goal.returns-then-step-eq0
returns-then-step-eq0 c =
    ports_put c.args.n.now.net c.args.out.now.items c.put_ports.new.out.items c.in_ok-put_ports.ensures
    ∙ ap (λ (t : List ℕ). c.args.out.now.items ++ t) (guarded_ports c.args.n.now.net c.args.step (omega (arith, c.if-step-eq0.true)))

pub returns-then-i-from : goal.returns-then-i-from
returns-then-i-from c =
    c.in_ok-put_node.ensures ∙ ap (λ (t : List ℕ). c.args.out.now.items ++ t)
    (guarded_twins c.args.n.now.net c.args.step (c.args.step - 1) (omega arith) (omega (arith, c.if-step-eq0.false)) (omega (arith, c.if-i-from.true, c.from.ensures, c.nodes_of-nodes.ensures.count)))

pub returns : goal.returns
returns c =
    c.in_ok-put_compared.ensures ∙ ap (λ (t : List ℕ). c.args.out.now.items ++ t)
    (guarded_compared c.args.n.now.net c.args.step (c.args.step - 1 - c.from-2.result) (omega (arith, c.from-2.ensures, c.nodes_of-nodes.ensures.count)) (omega (arith, c.if-step-eq0.false))
    (omega (arith, c.if-i-from.false, c.from.ensures, c.nodes_of-nodes.ensures.count)))
