use Rattle.std.proofs.Common.{◌∙◌, ap, arith}
use Rattle.triplicate.specs.Pins.{pin_is_voted}
use Rattle.triplicate.specs.Numbers.{block_start}
use Rattle.triplicate.proofs.Places.{start_none, start_all}
use Rattle.triplicate.proofs.blocks.hardened_nets.Goals as goal

pub loop-x-init : goal.loop-x-init
loop-x-init c = omega (arith, c.input_count-inputs.ensures.count, start_none c.args.n.now.net c.args.parts.now (pin_is_voted c.args.n.now.net c.args.parts.now c.args.votes.now))

pub returns : goal.returns
returns c =
    c.loop-x.invariant ∙ (ap (block_start c.args.n.now.net c.args.parts.now (pin_is_voted c.args.n.now.net c.args.parts.now c.args.votes.now)) (omega arith)
    ∙ start_all c.args.n.now.net c.args.parts.now (pin_is_voted c.args.n.now.net c.args.parts.now c.args.votes.now))
