use Rattle.std.proofs.Common.{arith}
use Rattle.campaigns.proofs.RunLaws.{near_cycles}
use Rattle.campaigns.proofs.drawing.draw_near_schedule.Goals as goal

pub returns-clause-runnable : goal.returns-clause-runnable
returns-clause-runnable c =
    let made = c.in_ok-s.ensures in
    record {
      inputs = made.exact.inputs;
      cycles = near_cycles c.args.number c.args.n.now.net c.args.h.now.net c.args.c.now c.args.cycles c.in_ok-s.s made.exact;
      nodes = λ i d l. (omega (arith, made.low i d l, c.requires.fits.hardened_inputs), omega (arith, made.high i d l, c.requires.fits.hardened_inputs, c.requires.fits.hardened_nodes));
      plain = c.cycles-cycles.ensures.plain;
    }
