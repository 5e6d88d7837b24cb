use Rattle.schedule_replay.specs.declared.outcome.Outcome.{Outcome}
use Rattle.schedule_replay.specs.Outcome.{IsReplayOf, IsFreeReplay}
use Rattle.schedule_replay.specs.OutcomeView.{plain_outcome}
use Rattle.std.proofs.Common.{[], sym, ◌∙◌}
use Rattle.tmr_top.proofs.ReplayLaws.{replay_plain}
use Rattle.tmr_top.proofs.RoomLaws.{if_ok}
use Rattle.tmr_top.proofs.commands.replay.replay_of.Goals as goal

pub returns-then-version-eq1-clause-replayed : goal.returns-then-version-eq1-clause-replayed
returns-then-version-eq1-clause-replayed c =
    let n = c.args.n.now.design in
    let f = c.args.n.now.free in
    let h = c.args.h.now.design in
    let g = c.args.h.now.free in
    if_ok c.replay.result
    (λ (o : Outcome). IsReplayOf c.net.result.now.net [] [] c.net-then-version-eq1.result.now.net [] [] c.args.c.now c.args.s.now (plain_outcome o))
    (λ (o : Outcome). IsFreeReplay n.net f h.net g c.args.c.now c.args.s.now (plain_outcome o))
    (λ o is. replay_plain c.net.result.now n f c.net-then-version-eq1.result.now h g c.args.c.now c.args.s.now (plain_outcome o) c.net.ensures.net c.net-then-version-eq1.ensures.net (sym c.version.ensures ∙ c.if-version-eq1.true) is)
    c.replay.ensures.outcome
