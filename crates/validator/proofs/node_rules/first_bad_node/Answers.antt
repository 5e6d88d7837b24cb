use Rattle.std.proofs.Common.{◌≡◌, ℕ, ◌+◌, IsTrue, ◌∙◌, length, ap, arith, rules, subst, below_more}
use Rattle.flat_net.specs.Net.{Net}
use Rattle.validator.specs.NodeRules.{NodeHolds}
use Rattle.validator.specs.Sides.{net_in, marks_in}
use Rattle.validator.proofs.Nodes.{node_rule_all}
use Rattle.validator.proofs.node_rules.first_bad_node.Goals as goal

pub returns-clause-first : goal.returns-clause-first
returns-clause-first c =
    let count : c.node_count-place-end.result ≡ length (net_in c.args.h).nodes = c.node_count-place-end.ensures ∙ ap (λ (h : Net). length h.nodes) c.net-hardened.ensures in
    node_rule_all c.args.rule (net_in c.args.n) (marks_in c.args.n) (net_in c.args.h) (marks_in c.args.h) c.args.c.now c.requires (λ i l. c.loop-place.invariant i (omega (arith, count)))

pub loop-place-preserved : goal.loop-place-preserved
loop-place-preserved c =
    let yes : IsTrue c.holds.result = search rules in
    let count : c.input_count-inputs.result ≡ length (net_in c.args.h).inputs = c.input_count-inputs.ensures.count ∙ ap (λ (h : Net). length h.inputs) c.net-hardened.ensures in
    let Here : ℕ → Type 0 = λ start. NodeHolds (net_in c.args.n) (marks_in c.args.n) (net_in c.args.h) (marks_in c.args.h) c.args.c.now c.args.rule (start + c.loop-place.place) in
    below_more _ _ c.loop-place.invariant (subst Here count (c.holds.ensures.0 yes))
