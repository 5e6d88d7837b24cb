use Rattle.std.proofs.Common.{List, length, ap, subst, arith}
use Rattle.schedule_replay.specs.declared.outcome.Outcome.{Outcome}
use Rattle.schedule_replay.specs.Many.{AreReplaysOf}
use Rattle.schedules.specs.Schedule.{PlainSchedule}
use Rattle.campaigns.specs.Campaign.{AreSumsOf}
use Rattle.campaigns.specs.NearCampaign.{IsFirst, IsKeptWrong}
use Rattle.campaigns.proofs.RunLaws.{told_output}
use Rattle.campaigns.proofs.near_campaigning.near_campaign.Goals as goal

pub first_wrong-first-requires : goal.first_wrong-first-requires
first_wrong-first-requires c =
    let long = c.in_ok-outcomes.ensures.replays.long in
    omega (arith, ap length c.deref-4.ensures.value, long, ap length c.deref.ensures.value, c.in_ok-list.ensures.drawn.many)

pub returns-clause-campaign : goal.returns-clause-campaign
returns-clause-campaign c =
    let n = c.args.n.now.net in
    let h = c.args.h.now.net in
    let k = c.args.c.now in
    let list : List PlainSchedule = c.in_ok-list.list.items in
    let outcomes : List Outcome = c.in_ok-outcomes.outcomes.items in
    let replays : AreReplaysOf n h k list outcomes = subst (λ (ss : List PlainSchedule). AreReplaysOf n h k ss outcomes) c.deref.ensures.value c.in_ok-outcomes.ensures.replays in
    let are : AreSumsOf list outcomes c.sum_runs-sums.result =
    subst (λ (os : List Outcome). AreSumsOf list os c.sum_runs-sums.result) c.deref-3.ensures.value
    (subst (λ (ss : List PlainSchedule). AreSumsOf ss c.deref-3.result.now c.sum_runs-sums.result) c.deref-2.ensures.value c.sum_runs-sums.ensures) in
    let first : IsFirst (IsKeptWrong outcomes) c.first_wrong-first.result = subst (λ (os : List Outcome). IsFirst (IsKeptWrong os) c.first_wrong-first.result) c.deref-4.ensures.value c.first_wrong-first.ensures in
    record { schedules = list; outcomes = outcomes; are_drawn = c.in_ok-list.ensures.drawn; replays = replays; are_sums = are; first_is = first }

pub returns-clause-output : goal.returns-clause-output
returns-clause-output c =
    told_output c.args.n.now.net c.args.h.now.net c.args.c.now c.deref.result.now c.in_ok-outcomes.outcomes.items c.first_wrong-first.result c.in_ok-outcomes.ensures.replays
    (subst (λ (os : List Outcome). IsFirst (IsKeptWrong os) c.first_wrong-first.result) c.deref-4.ensures.value c.first_wrong-first.ensures)
