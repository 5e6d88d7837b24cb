use Rattle.partitioner.proofs.HintLaws.{hints_none}
use Rattle.partitioner.proofs.costs.hints.no_hints.Goals as goal

pub returns-clause-hints : goal.returns-clause-hints
returns-clause-hints c =
    hints_none c.args.n.now.net c.args.size c.args.p.now c.args.i c.args.gains.now c.begin.new.gains c.requires.counted c.begin.ensures.begun c.begin.ensures.near
