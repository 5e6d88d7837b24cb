use Rattle.std.proofs.Common.{◌≢◌}
use Rattle.schedules.specs.declared.fault.ScheduleFault.TheVariants.{Memory}
use Rattle.tmr_texts.specs.Reasons.{schedule_reason}
use Rattle.tmr_words.specs.FileWords.{replaying_in, word_in}
use Rattle.tmr_top.specs.Replayed.{IsReplayRefused}
use Rattle.tmr_top.specs.Private.Replaying.{IsBeforeSchedule}
use Rattle.tmr_top.proofs.LoadLaws.{is_refusal}
use Rattle.tmr_top.proofs.ReplayLaws.{schedule_fault, schedule_gives, schedule_refused, replayable}
use Rattle.tmr_top.proofs.commands.replay.schedule_for.Goals as goal

pub returns-in-Ok-clause-gives : goal.returns-in-Ok-clause-gives
returns-in-Ok-clause-gives c = schedule_gives (replaying_in c.args.words.now) c.args.pair.now c.args.bytes.now c.in-Ok.s c.keep_small.result c.in-Ok.ensures.ok c.keep_small.ensures.same c.keep_small.ensures.large

pub returns-in-Ok-clause-replayable : goal.returns-in-Ok-clause-replayable
returns-in-Ok-clause-replayable c = replayable (word_in c.args.words.now.waves) c.args.pair.now c.in-Ok.s c.keep_small.result c.in-Ok.ensures.inputs c.in-Ok.ensures.nodes c.in-Ok.ensures.nets c.keep_small.ensures.same c.keep_small.ensures.small

pub returns-in-Err-clause-gives : goal.returns-in-Err-clause-gives
returns-in-Err-clause-gives c =
    let w = replaying_in c.args.words.now in
    is_refusal c.args.words.now.schedule.now c.schedule_reason.result (schedule_reason c.in-Err.fault) (c.in-Err.fault ≢ Memory) (IsBeforeSchedule w c.args.pair.now c.args.bytes.now) (λ line held. IsReplayRefused w held line) _ c.refuse_for.ensures c.schedule_reason.ensures.reason c.schedule_reason.ensures.caused
    (λ line held says caused before. schedule_refused w c.args.pair.now c.args.bytes.now c.in-Err.fault line held says (schedule_fault c.in-Err.fault _ c.in-Err.ensures.err caused) before)
