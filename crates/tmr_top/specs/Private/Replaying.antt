-- Steps of a replay.
use Rattle.std.specs.Prelude.{◌≡◌, ◌<◌, ℕ, Bool, true, false, All, List, length, codes, Option, IsTrue}
use Rattle.flat_net.specs.Net.{net_count}
use Rattle.schedules.specs.Document.{Listed}
use Rattle.schedules.specs.Entries.{HasWhatIsListed}
use Rattle.schedule_replay.specs.Outcome.{PlainOutcome, IsFreeReplay}
use Rattle.schedules.specs.Reading.{IsNodeOf}
use Rattle.schedules.specs.Schedule.{PlainSchedule}
use Rattle.tmr_outside.specs.Contents.{Contents}
use Rattle.tmr_words.specs.Line.{Replaying}
use Rattle.tmr_top.specs.declared.commands.replay.ReplayFiles.{ReplayFiles}
use Rattle.tmr_top.specs.declared.commands.replay.ReplayRead.{ReplayRead}
use Rattle.tmr_top.specs.declared.decision.Work.{Work}
use Rattle.tmr_top.specs.declared.decision.Verdict.TheVariants.{Done}
use Rattle.tmr_top.specs.declared.loads.Stop.{Stop}
use Rattle.tmr_top.specs.declared.pair_files.PairRead.{PairRead}
use Rattle.tmr_top.specs.Loads.{Load, schedule_file, wave_names}
use Rattle.tmr_top.specs.Pairs.{ReadPair, HoldsPair}
use Rattle.tmr_texts.specs.ReplayText.{replay_lines}
use Rattle.tmr_texts.specs.Texts.{refused_line}
use Rattle.tmr_top.specs.Validated.{IsPairUnread}
use Rattle.tmr_top.specs.Replayed.{HoldsSchedule, SavesWaves, is_too_large}
use Rattle.tmr_top.specs.Private.Opened.{HoldsBytes, Keeps}
use Rattle.tmr_top.specs.Private.PairFiles.{pair_of}
use Rattle.tmr_top.specs.Private.Refused.{Refuses}
use Rattle.tmr_top.specs.Private.Works.{save_names, save_texts}

-- the file holds a schedule for the pair, and this one has what it lists
pub record ReadsSchedule (held : Contents) (load : Load) (r : ReadPair) (s : PlainSchedule) : Type 0 where
  pub listed : Listed
  pub read : HoldsSchedule held load r listed
  pub is_listed : HasWhatIsListed (length r.original.inputs) listed s

-- what is kept of the pair is what its files hold, and the schedule is what its name holds
pub record AreReplayFiles (w : Replaying) (loaded : ReplayFiles) (held : Contents) : Type 0 where
  pub pair_kept : Keeps (λ read held. HoldsPair held w.pair (pair_of read)) (λ line held. IsPairUnread w.pair held line) loaded.pair held
  pub schedule_loaded : HoldsBytes held (schedule_file w.schedule) loaded.schedule.items

-- the pair is read, and these are the bytes of the schedule's file
pub record IsBeforeSchedule (w : Replaying) (read : PairRead) (bytes : List ℕ) (held : Contents) : Type 0 where
  pub holds : HoldsPair held w.pair (pair_of read)
  pub loaded : HoldsBytes held (schedule_file w.schedule) bytes

-- all four files are read
pub record IsReplayRead (w : Replaying) (read : ReplayRead) (held : Contents) : Type 0 where
  pub holds : HoldsPair held w.pair (pair_of read.pair)
  pub schedule_read : ReadsSchedule held (schedule_file w.schedule) (pair_of read.pair) read.schedule

-- the schedule can be run on the pair, and its waves, where they are to be saved, are not too many
pub record IsReplayable (waves : Option (List ℕ)) (read : PairRead) (s : PlainSchedule) : Type 0 where
  pub rows : s.inputs ≡ length read.original.design.net.inputs
  pub nodes : read.certificate.version ≡ 1 → All (λ u. IsNodeOf read.hardened.design.net u.net.0) s.upsets
  pub nets : All (λ u. u.net.0 < net_count read.hardened.design.net) s.upsets
  pub room : is_too_large waves read.original.design.net (length s.rows) ≡ false

-- there are too many waves, and that is the refusal
pub record IsTooLargeStop (name : List ℕ) (is_large : Bool) (why : Stop) : Type 0 where
  pub large : is_large ≡ true
  pub refuses : Refuses (refused_line name (codes "wave too large")) why

-- what the schedule does is told, and its waves are saved where there is a name for them
pub record IsTold (waves : Option (List ℕ)) (r : ReadPair) (s : PlainSchedule) (saved : List (List ℕ)) (text : List ℕ) : Type 0 where
  pub outcome : PlainOutcome
  pub replayed : IsFreeReplay r.original r.free r.hardened r.hardened_free r.certificate s outcome
  pub masked : IsTrue outcome.allowed → (outcome.wrong ≡ 0) × (outcome.late ≡ 0)
  pub says : text ≡ replay_lines r.original s outcome
  pub saves : SavesWaves waves r s saved

-- a work that is done, and tells of the schedule
pub record IsToldWork (waves : Option (List ℕ)) (r : ReadPair) (s : PlainSchedule) (work : Work) : Type 0 where
  pub done : work.verdict ≡ Done
  pub names_are : save_names work.saves.items ≡ wave_names waves
  pub told : IsTold waves r s (save_texts work.saves.items) work.text.items
