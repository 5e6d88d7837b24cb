use Rattle.std.proofs.Common.{refl}
use Rattle.tmr_words.specs.FileWords.{replaying_in}
use Rattle.tmr_top.proofs.ReplayLaws.{told_over, denied_outcome}
use Rattle.tmr_top.proofs.RoomLaws.{if_ok, denied_over}
use Rattle.tmr_top.proofs.commands.replay.tell.Goals as goal

pub returns-in-Ok : goal.returns-in-Ok
returns-in-Ok c = if_ok c.replay_accepted.result _ _ (λ w is. told_over (replaying_in c.args.words.now) c.args.read.now w c.requires.replayable.room c.in-Ok.ensures.accepts is) c.replay_accepted.ensures

pub returns-in-Err : goal.returns-in-Err
returns-in-Err c = if_ok c.deny.result _ _ (λ w is. denied_over _ _ _ w is refl (λ t e. cc)
    (λ held read saved. denied_outcome (replaying_in c.args.words.now) held _ read.holds c.args.read.now.schedule read.schedule_read _ _ c.requires.replayable.room c.in-Err.ensures.denies)) c.deny.ensures
