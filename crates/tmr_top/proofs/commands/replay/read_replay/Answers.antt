use Rattle.std.proofs.Common.{ℕ, List, subst, sym, inl}
use Rattle.tmr_words.specs.FileWords.{replaying_in}
use Rattle.tmr_top.specs.Loads.{schedule_file}
use Rattle.tmr_top.specs.Pairs.{HoldsPair}
use Rattle.tmr_top.specs.Replayed.{IsReplayRefused}
use Rattle.tmr_top.specs.Validated.{IsPairUnread}
use Rattle.tmr_top.specs.Private.Opened.{HoldsBytes}
use Rattle.tmr_top.specs.Private.PairFiles.{pair_of}
use Rattle.tmr_top.specs.Private.Replaying.{AreReplayFiles, IsBeforeSchedule}
use Rattle.tmr_top.proofs.LoadLaws.{refusal_more, kept_read, kept_refused}
use Rattle.tmr_top.proofs.commands.replay.read_replay.Goals as goal

pub returns-in-Ok-schedule_for-clause-gives : goal.returns-in-Ok-schedule_for-clause-gives
returns-in-Ok-schedule_for-clause-gives c = λ held loaded.
    let w = replaying_in c.args.words.now in
    let holds = kept_read (λ read held. HoldsPair held w.pair (pair_of read)) (λ line held. IsPairUnread w.pair held line) c.args.loaded.pair c.in-Ok.pair held c.in-Ok.is loaded.pair_kept in
    let bytes = subst (λ (b : List ℕ). HoldsBytes held (schedule_file w.schedule) b) (sym c.deref.ensures.value) loaded.schedule_loaded in
    record { holds = holds; schedule_read = c.in-Ok-schedule_for.ensures.gives held (record { holds = holds; loaded = bytes }) }

pub returns-in-Ok-clause-gives : goal.returns-in-Ok-clause-gives
returns-in-Ok-clause-gives c =
    let w = replaying_in c.args.words.now in
    refusal_more (IsBeforeSchedule w c.in-Ok.pair c.deref.result.now) (AreReplayFiles w c.args.loaded) (λ line held. IsReplayRefused w held line) (λ line held. IsReplayRefused w held line) _ c.in-Err-schedule_for.ensures.gives
    (λ held loaded. record {
      holds = kept_read (λ read held. HoldsPair held w.pair (pair_of read)) (λ line held. IsPairUnread w.pair held line) c.args.loaded.pair c.in-Ok.pair held c.in-Ok.is loaded.pair_kept;
      loaded = subst (λ (b : List ℕ). HoldsBytes held (schedule_file w.schedule) b) (sym c.deref.ensures.value) loaded.schedule_loaded;
    })
    (λ line held loaded refused. refused)

pub returns-clause-gives : goal.returns-clause-gives
returns-clause-gives c = λ held loaded.
    let w = replaying_in c.args.words.now in
    inl (kept_refused (λ read held. HoldsPair held w.pair (pair_of read)) (λ line held. IsPairUnread w.pair held line) c.args.loaded.pair c.in-Err.line held c.in-Err.is loaded.pair_kept)
