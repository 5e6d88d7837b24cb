use Rattle.std.proofs.Common.{◌+◌, length, ap, ◌∙◌, arith}
use Rattle.std.proofs.lemmas.List.FromFn.{length-map-range_with_len}
use Rattle.feedback_cut.specs.Inner.{node_pins}
use Rattle.flat_net.specs.Net.{node_of, pins_at}
use Rattle.triplicate.specs.Blocks.{hardened_clock}
use Rattle.triplicate.specs.Planned.{plan_votes}
use Rattle.hardened_text.specs.Private.Lines.{first_word}
use Rattle.hardened_text.proofs.CopyPuts.{three_put}
use Rattle.hardened_text.proofs.copies.put_copies.Goals as goal

pub put_three-requires : goal.put_three-requires
put_three-requires c = record {
  within = omega (arith, c.input_count.ensures.count, c.nodes_of-nodes.ensures.count);
  votes = ap length (c.deref.ensures.value ∙ c.in_ok-note_votes.ensures) ∙ (length-map-range_with_len (plan_votes c.args.n.now.net c.args.plan.now c.args.y) 0 (length (node_pins c.args.n.now.net c.args.y))
      ∙ ap (λ x. length (pins_at (node_of c.args.n.now.net x))) (omega (arith, c.input_count.ensures.count)));
}

pub returns : goal.returns
returns c =
    three_put c.args.n.now.net c.args.plan.now.parts (plan_votes c.args.n.now.net c.args.plan.now) (hardened_clock c.args.n.now.net.clock) c.args.free (c.input_count.result + c.args.y) c.args.y c.of.result c.as_bytes.result.now c.deref.result.now c.first_word.result.now c.deref-2.result.now c.args.out.now.items c.put_three.new.out.items
    c.requires.node (omega (arith, c.input_count.ensures.count)) c.of.ensures.value (c.as_bytes.ensures.value ∙ c.format.ensures.text) (c.deref.ensures.value ∙ c.in_ok-note_votes.ensures)
    (c.first_word.ensures ∙ ap first_word c.kind.ensures) (c.deref-2.ensures.value ∙ c.in_ok-note_ending.ensures) c.in_ok-put_three.ensures
