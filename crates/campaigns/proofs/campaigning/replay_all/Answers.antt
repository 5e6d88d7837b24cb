use Rattle.std.proofs.Common.{arith}
use Rattle.campaigns.proofs.RunLaws.{one_length, bounded_outcomes}
use Rattle.campaigns.proofs.campaigning.replay_all.Goals as goal

pub replay_wide-requires : goal.replay_wide-requires
replay_wide-requires c = record {
  fits = c.requires.fits;
  inputs = c.requires.inputs;
  outputs = c.requires.outputs;
  some = omega (arith, c.requires.many);
  few = omega (arith, c.requires.many);
  rows = λ j d l. (c.requires.runnable j d l).inputs;
  cycles = one_length _ _ _ _ c.requires.runnable;
  nodes = λ j d l. (c.requires.runnable j d l).nodes;
}

pub returns-clause-bounded : goal.returns-clause-bounded
returns-clause-bounded c =
    let valid = c.input_count-inputs.ensures.design.valid.unordered in
    bounded_outcomes c.args.n.now.net c.args.h.now.net c.args.c.now c.args.cycles c.args.list.now c.in_ok-outcomes.outcomes.items
    valid.few_outputs (omega (arith, valid.few)) c.requires.few c.requires.runnable c.in_ok-outcomes.ensures.outcomes
