use Rattle.partitioner.proofs.AheadLaws.{reader_below}
use Rattle.partitioner.proofs.costs.ahead.parts_ahead.Goals as goal

pub part_of-requires-clause-node : goal.part_of-requires-clause-node
part_of-requires-clause-node c =
    reader_below c.args.n.now.net c.args.p.now c.args.x c.loop-y.y-index c.row-y-items.result.now c.requires.tracks c.requires.node c.row-y-items.ensures c.loop-y-test.true
