use Rattle.partitioner.proofs.AheadLaws.{source_below}
use Rattle.partitioner.proofs.costs.ahead.readers_ahead.Goals as goal

pub is_wide-requires-clause-node : goal.is_wide-requires-clause-node
is_wide-requires-clause-node c =
    source_below c.args.n.now.net c.args.p.now c.args.i c.loop-x.x-index c.row-x-items.result.now c.requires.tracks c.requires.node c.row-x-items.ensures c.loop-x-test.true

pub parts_ahead-mixed-requires-then-not-is_wide-clause-node : goal.parts_ahead-mixed-requires-then-not-is_wide-clause-node
parts_ahead-mixed-requires-then-not-is_wide-clause-node c =
    source_below c.args.n.now.net c.args.p.now c.args.i c.loop-x.x-index c.row-x-items.result.now c.requires.tracks c.requires.node c.row-x-items.ensures c.loop-x-test.true
