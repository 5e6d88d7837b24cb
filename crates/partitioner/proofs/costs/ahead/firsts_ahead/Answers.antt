use Rattle.std.proofs.Common.{arith}
use Rattle.partitioner.proofs.AheadLaws.{source_below}
use Rattle.partitioner.proofs.costs.ahead.firsts_ahead.Goals as goal

pub row-requires : goal.row-requires
row-requires c =
    let within = source_below c.args.n.now.net c.args.p.now c.args.i c.loop-x.x-index c.row-x-items.result.now c.requires.tracks c.requires.node c.row-x-items.ensures c.loop-x-test.true in
    omega (arith, within, c.requires.tracks.readers.long)
