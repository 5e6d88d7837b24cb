use Rattle.partitioner.proofs.LaneLaws.{lanes_added}
use Rattle.partitioner.proofs.costs.lanes.add.Goals as goal

pub returns : goal.returns
returns c = λ j k reached. lanes_added c.args.lanes c.args.word j k reached
