use Rattle.explaining.proofs.finding.rule_6.Goals as goal

pub returns-in-Copy-clause-nets : goal.returns-in-Copy-clause-nets
returns-in-Copy-clause-nets c = c.label_reason.ensures.nets c.args.n.now.net
