use Rattle.std.proofs.Common.{arith}
use Rattle.partitioner.proofs.HintLaws.{hinted_loss}
use Rattle.partitioner.proofs.costs.hints.least_in.Goals as goal

pub returns : goal.returns
returns c = λ room.
    omega (arith, c.from.ensures, c.from-2.ensures, c.missed_in.ensures, c.near_in.ensures, hinted_loss c.args.n.now.net c.args.size c.args.p.now c.args.i c.args.q c.args.gains.now c.args.hints.now c.requires.counted c.requires.hints c.requires.partition room)
