use Rattle.std.proofs.Common.{[]}
use Rattle.schedule_replay.specs.OutcomeView.{plain_outcome}
use Rattle.schedule_replay.proofs.Starting.{unmarked, none_given}
use Rattle.schedule_replay.proofs.Unharmed.{plain_unharmed}
use Rattle.schedule_replay.proofs.replaying.replay.Goals as goal

pub returns-in-Ok-clause-outcome : goal.returns-in-Ok-clause-outcome
returns-in-Ok-clause-outcome c =
    let n = c.args.n.now.net in
    let h = c.args.h.now.net in
    c.in-Ok.ensures [] [] [] [] (unmarked n) (unmarked h) (none_given n [] _ c.no_starts-starts.ensures.original) (none_given h [] _ c.no_starts-starts.ensures.hardened)

pub returns-in-Ok-clause-masked : goal.returns-in-Ok-clause-masked
returns-in-Ok-clause-masked c = λ masks allowed.
    let n = c.args.n.now.net in
    let h = c.args.h.now.net in
    let is = c.in-Ok.ensures [] [] [] [] (unmarked n) (unmarked h) (none_given n [] _ c.no_starts-starts.ensures.original) (none_given h [] _ c.no_starts-starts.ensures.hardened) in
    plain_unharmed n h c.args.c.now c.args.s.now (plain_outcome c.in-Ok.outcome) c.cycles-cycles.ensures.plain c.requires.rows c.requires.nodes masks is allowed
