use Rattle.std.proofs.Common.{[], ◌∷◌}
use Rattle.tmr_words.specs.FileWords.{pair_in, replaying_in}
use Rattle.tmr_top.specs.Loads.{pair_files, schedule_file}
use Rattle.tmr_top.specs.Private.Replaying.{AreReplayFiles}
use Rattle.tmr_top.proofs.LoadLaws.{opens_both, stops_first, stops_later}
use Rattle.tmr_top.proofs.commands.replay.load_replay.Goals as goal

pub returns-in-Ok-load_bytes-clause-opens : goal.returns-in-Ok-load_bytes-clause-opens
returns-in-Ok-load_bytes-clause-opens g c = opens_both (pair_files (pair_in c.args.words.now.pair)) (schedule_file c.args.words.now.schedule.now ∷ []) _ _ (AreReplayFiles (replaying_in c.args.words.now)) _ _ _ _ _ _ _ c.in-Ok.ensures.opens _ _ (λ held one other. record { pair_kept = one; schedule_loaded = other }) c.in-Ok-load_bytes.ensures.opens

pub returns-in-Err-load_bytes-clause-opens : goal.returns-in-Err-load_bytes-clause-opens
returns-in-Err-load_bytes-clause-opens g c = stops_later (pair_files (pair_in c.args.words.now.pair)) (schedule_file c.args.words.now.schedule.now ∷ []) _ _ (AreReplayFiles (replaying_in c.args.words.now)) _ _ _ _ _ _ _ c.in-Ok.ensures.opens _ c.in-Err-load_bytes.ensures.opens

pub returns-in-Err-clause-opens : goal.returns-in-Err-clause-opens
returns-in-Err-clause-opens g c = stops_first (pair_files (pair_in c.args.words.now.pair)) (schedule_file c.args.words.now.schedule.now ∷ []) _ _ _ _ _ _ _ c.in-Err.ensures.opens
