use Rattle.std.proofs.Common.{ap, sym, ◌∙◌, arith}
use Rattle.tmr_trial.specs.Designs.{state_behind}
use Rattle.tmr_trial.proofs.Making.{state_none, state_more, packs_next, no_pins}
use Rattle.tmr_trial.proofs.nodes.drawn_nodes.Goals as goal

pub loop-i-init : goal.loop-i-init
loop-i-init c = record {
  state = c.new-numbers.ensures ∙ sym (state_none c.args.number);
  packs = c.no_nodes-nodes.ensures;
  pins = omega (arith, no_pins c.no_nodes-nodes.result c.no_nodes-nodes.ensures);
  registers = let p = c.no_nodes-nodes.ensures in omega (arith, p.registers);
}

pub loop-i-preserved : goal.loop-i-preserved
loop-i-preserved c = record {
  state = c.in_ok-push_drawn.ensures.state ∙ (ap state_behind c.loop-i.invariant.state ∙ sym (state_more c.args.number c.loop-i.i));
  packs = packs_next c.args.number c.args.count c.loop-i.i c.loop-i.numbers.state c.loop-i.nodes c.push_drawn.new.nodes c.loop-i.invariant.state c.loop-i.invariant.packs c.in_ok-push_drawn.ensures.node;
  pins = omega (arith, c.in_ok-push_drawn.ensures.pins, c.loop-i.invariant.pins);
  registers = omega (arith, c.in_ok-push_drawn.ensures.registers, c.loop-i.invariant.registers);
}
