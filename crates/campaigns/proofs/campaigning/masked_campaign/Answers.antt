use Rattle.std.proofs.Common.{List, subst}
use Rattle.schedule_replay.specs.declared.outcome.Outcome.{Outcome}
use Rattle.schedule_replay.specs.Many.{AreReplaysOf}
use Rattle.schedules.specs.Schedule.{PlainSchedule}
use Rattle.campaigns.specs.Campaign.{AreSumsOf}
use Rattle.campaigns.proofs.RunLaws.{campaign_is}
use Rattle.campaigns.proofs.campaigning.masked_campaign.Goals as goal

pub returns : goal.returns
returns c =
    let n = c.args.n.now.net in
    let h = c.args.h.now.net in
    let k = c.args.c.now in
    let list : List PlainSchedule = c.in_ok-list.list.items in
    let outcomes : List Outcome = c.in_ok-outcomes.outcomes.items in
    let replays : AreReplaysOf n h k list outcomes = subst (λ (ss : List PlainSchedule). AreReplaysOf n h k ss outcomes) c.deref.ensures.value c.in_ok-outcomes.ensures.replays in
    let are : AreSumsOf list outcomes c.sum_runs.result =
    subst (λ (os : List Outcome). AreSumsOf list os c.sum_runs.result) c.deref-3.ensures.value
    (subst (λ (ss : List PlainSchedule). AreSumsOf ss c.deref-3.result.now c.sum_runs.result) c.deref-2.ensures.value c.sum_runs.ensures) in
    campaign_is c.args.number c.args.cycles n h k list outcomes c.sum_runs.result c.requires.masks c.in_ok-list.ensures.drawn c.in_ok-list.ensures.runnable replays are
