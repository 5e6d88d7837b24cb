use Rattle.std.proofs.Common.{◌+◌, ◌∙◌, sym, subst, arith, refl}
use Rattle.std.proofs.lemmas.Bool.{false≢true}
use Rattle.dwc.specs.Answer.{DifferFirst}
use Rattle.dwc.proofs.SameDesign.{node_at_place, more_same, lists_same, shorter}
use Rattle.dwc.proofs.check.differing_node.Goals as goal

pub returns-then-not-same_node : goal.returns-then-not-same_node
returns-then-not-same_node c = record {
  differ = λ e.
      let a = c.args.a.now.net in
      let b = c.args.b.now.net in
      let x = c.input_count-inputs.result + c.loop-i.i in
      false≢true (c.if-not-same_node.ensures.1 (node_at_place a x c.loop-i.i (omega (arith, c.input_count-inputs.ensures.count)) ∙ (e ∙ sym (node_at_place b x c.loop-i.i (omega (arith, c.input_count-inputs.ensures.count, c.requires))))));
  first = c.loop-i.invariant.same;
}

pub loop-i-preserved : goal.loop-i-preserved
loop-i-preserved c = record {
  long = omega (arith, c.if-i-count.false, c.node_count-count.ensures);
  same =
      let a = c.args.a.now.net in
      let b = c.args.b.now.net in
      let x = c.input_count-inputs.result + c.loop-i.i in
      more_same a.nodes b.nodes c.loop-i.i c.loop-i.invariant.same (sym (node_at_place a x c.loop-i.i (omega (arith, c.input_count-inputs.ensures.count))) ∙ (c.if-not-same_node.ensures.0 refl ∙ node_at_place b x c.loop-i.i (omega (arith, c.input_count-inputs.ensures.count, c.requires))));
}

pub returns-then-node_count-count : goal.returns-then-node_count-count
returns-then-node_count-count c =
    let a = c.args.a.now.net in
    let b = c.args.b.now.net in
    subst (λ k. DifferFirst a.nodes b.nodes k) (sym c.node_count-then-node_count-count.ensures) (shorter a.nodes b.nodes (omega (arith, c.if-node_count-count.true, c.node_count.ensures, c.node_count-count.ensures)) (λ i h. c.loop-i.invariant.same i (omega (arith, h, c.loop-i-test.false, c.node_count-i-end.ensures))))

pub returns : goal.returns
returns c =
    let a = c.args.a.now.net in
    let b = c.args.b.now.net in
    lists_same a.nodes b.nodes (omega (arith, c.if-node_count-count.false, c.node_count.ensures, c.node_count-count.ensures, c.loop-i.invariant.long, c.loop-i-test.false, c.node_count-i-end.ensures)) (λ i h. c.loop-i.invariant.same i (omega (arith, h, c.loop-i-test.false, c.node_count-i-end.ensures)))
