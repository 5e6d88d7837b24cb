use Rattle.std.proofs.Common.{arith}
use Rattle.schedule_replay.proofs.BesideLaws.{copies_stand}
use Rattle.schedule_replay.proofs.origins.origins_of.Goals as goal

pub returns-clause-copies : goal.returns-clause-copies
returns-clause-copies c = copies_stand c.args.n.now.net c.args.h.now.net c.args.c.now c.loop-y.origins.items c.loop-y.y c.hardened_inputs-inputs.ensures.cert c.requires.fits (omega arith) c.loop-y.invariant.copies
