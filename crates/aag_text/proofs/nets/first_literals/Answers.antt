use Rattle.std.proofs.Common.{◌∙◌, ◌+◌, ◌++◌, List, ap, arith}
use Rattle.std.specs.Prelude.{drop}
use Rattle.aag_text.specs.declared.aig.Literal.{Literal}
use Rattle.aag_text.specs.Private.Nets.{node_literals}
use Rattle.aag_text.proofs.Firsts.{firsts_more, at_node, chosen_bound}
use Rattle.aag_text.proofs.nets.first_literals.Goals as goal

pub loop-i-preserved : goal.loop-i-preserved
loop-i-preserved c = record {
  same = ap (λ (o : List Literal). o ++ node_literals c.chosen-next.result (drop (c.loop-i.i + 1) c.args.n.now.net.nodes)) c.in_ok-push.ensures.items
      ∙ firsts_more c.args.n.now.net c.loop-i.i c.loop-i.next c.chosen-next.result c.loop-i.literals.items _ c.is_register-is_register.result c.chosen.result
      (omega (arith, c.loop-i-test.true, c.node_count-i-end.ensures)) (at_node c.args.n.now.net c.loop-i.i c.input_count-inputs.result _ c.input_count-inputs.ensures.count c.is_register-is_register.ensures) c.chosen.ensures c.chosen-next.ensures c.loop-i.invariant.same;
  bound = chosen_bound c.is_register-is_register.result c.loop-i.next c.chosen-next.result _ c.loop-i.i c.chosen-next.ensures c.loop-i.invariant.bound;
}
