use Rattle.certifying.proofs.certified.judged.Goals as goal

pub returns-in-Some-first_misfit-clause-place : goal.returns-in-Some-first_misfit-clause-place
returns-in-Some-first_misfit-clause-place c = c.cause_of.ensures c.args.designs.now.original.now.net c.args.designs.now.hardened.now.net c.in-Some-first_misfit.ensures
