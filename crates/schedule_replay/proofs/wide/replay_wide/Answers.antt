use Rattle.std.proofs.Common.{◌≡◌, Some, length, get_or, slice_get, arith}
use Rattle.std.specs.Prelude.{All}
use Rattle.std.proofs.lemmas.Option.{slice_get-get_or}
use Rattle.flat_net.proofs.Slots.{slice_get_there}
use Rattle.schedule_replay.specs.declared.outcome.Outcome.{Outcome}
use Rattle.schedule_replay.specs.Many.{AreReplaysOf}
use Rattle.schedule_replay.specs.OutcomeView.{plain_outcome}
use Rattle.schedules.specs.Reading.{IsNodeOf}
use Rattle.schedules.specs.Schedule.{IsPlainSchedule}
use Rattle.schedule_replay.proofs.Turns.{at_place}
use Rattle.schedule_replay.proofs.WideLaws.{replays_unmarked}
use Rattle.schedule_replay.proofs.Unharmed.{plain_unharmed}
use Rattle.schedule_replay.proofs.wide.replay_wide.Goals as goal

pub returns-in-Ok-clause-outcomes : goal.returns-in-Ok-clause-outcomes
returns-in-Ok-clause-outcomes c =
    replays_unmarked c.args.n.now.net c.args.h.now.net c.no_starts-starts.result c.args.c.now c.args.list.now c.in-Ok.outcomes.items c.no_starts-starts.ensures.original c.no_starts-starts.ensures.hardened c.in-Ok.ensures.outcomes

pub returns-in-Ok-clause-masked : goal.returns-in-Ok-clause-masked
returns-in-Ok-clause-masked c = λ masks j d l.
    let n = c.args.n.now.net in
    let h = c.args.h.now.net in
    let list = c.args.list.now in
    let o : Outcome = get_or c.in-Ok.outcomes.items j d in
    let at_o : slice_get c.in-Ok.outcomes.items j ≡ Some o = slice_get-get_or c.in-Ok.outcomes.items j d l in
    let (s, at_s) = slice_get_there list j (let long = c.in-Ok.ensures.outcomes.long in omega arith) in
    let replays : AreReplaysOf n h c.args.c.now list c.in-Ok.outcomes.items =
    replays_unmarked n h c.no_starts-starts.result c.args.c.now list c.in-Ok.outcomes.items c.no_starts-starts.ensures.original c.no_starts-starts.ensures.hardened c.in-Ok.ensures.outcomes in
    plain_unharmed n h c.args.c.now s (plain_outcome o) (at_place (λ s. IsPlainSchedule s) list j s c.in-Ok.ensures.plain at_s) (at_place (λ s. s.inputs ≡ length n.inputs) list j s c.requires.rows at_s)
    (at_place (λ s. All (λ u. IsNodeOf h u.net.0) s.upsets) list j s c.requires.nodes at_s) masks (replays.each j s o at_s at_o)
