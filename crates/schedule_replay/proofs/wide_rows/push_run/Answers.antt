use Rattle.std.proofs.Common.{◌∙◌, refl}
use Rattle.std.proofs.lemmas.Bool.{eq-eqb, ne_eqb}
use Rattle.schedule_replay.proofs.wide_rows.push_run.Goals as goal

pub returns-clause-own : goal.returns-clause-own
returns-clause-own c = λ x none. c.in_ok-push_pairs.ensures.own c.args.j x c.requires (c.run_word.ensures c.args.j c.requires ∙ eq-eqb c.args.j c.args.j refl) none

pub returns-clause-others : goal.returns-clause-others
returns-clause-others c = λ i x l apart. c.in_ok-push_pairs.ensures.others i x (c.run_word.ensures i l ∙ ne_eqb i c.args.j apart)
