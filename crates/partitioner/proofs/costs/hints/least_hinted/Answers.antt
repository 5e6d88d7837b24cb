use Rattle.std.proofs.Common.{arith}
use Rattle.partitioner.proofs.HintLaws.{hinted_least}
use Rattle.partitioner.proofs.costs.hints.least_hinted.Goals as goal

pub returns : goal.returns
returns c = λ q l room.
    omega (arith, c.from.ensures, c.from-2.ensures, c.from-3.ensures, c.from-4.ensures, c.saturating_add-counted.ensures, c.saturating_add-all.ensures, c.saturating_sub-left.ensures, c.saturating_sub.ensures, hinted_least c.args.n.now.net c.args.size c.args.p.now c.args.i q c.args.gains.now c.args.hints.now c.requires.counted c.requires.hints l room)
