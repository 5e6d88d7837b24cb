use Rattle.std.proofs.Common.{◌+◌, length, ap, ◌∙◌, arith, rules}
use Rattle.triplicate.specs.Pins.{pin_is_voted}
use Rattle.triplicate.specs.Numbers.{block_start}
use Rattle.std.proofs.lemmas.List.{length_push}
use Rattle.triplicate.proofs.Places.{pushed_all, start_none}
use Rattle.triplicate.proofs.blocks.block_starts.Goals as goal

pub loop-x-init : goal.loop-x-init
loop-x-init c = record {
  next = omega (arith, c.input_count-inputs.ensures.count, start_none c.args.n.now.net c.args.parts.now (pin_is_voted c.args.n.now.net c.args.parts.now c.args.votes.now));
  long = search rules;
  each = λ z h. absurd (omega arith);
}

pub loop-x-preserved : goal.loop-x-preserved
loop-x-preserved c = record {
  next = c.next_start-next.ensures;
  long = ap length c.in_ok-push.ensures.items ∙ (length_push c.loop-x.starts.items c.loop-x.next ∙ ap (λ k. k + 1) c.loop-x.invariant.long);
  each = pushed_all (block_start c.args.n.now.net c.args.parts.now (pin_is_voted c.args.n.now.net c.args.parts.now c.args.votes.now)) c.loop-x.starts.items c.push.new.self.items c.loop-x.x c.loop-x.next c.in_ok-push.ensures.items c.loop-x.invariant.long c.loop-x.invariant.next c.loop-x.invariant.each;
}
