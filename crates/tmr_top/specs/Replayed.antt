-- `replay ORIG HARD CERT SCHED` and `wave ORIG HARD CERT SCHED VCD`: what they come to.
use Rattle.std.specs.Prelude.{◌≡◌, ◌⊎◌, ℕ, ◌*◌, nat_lt, Bool, true, false, List, [], ◌∷◌, length, codes, Option, Some, None, Ok, Err, IsTrue}
use Rattle.certificate.specs.Rules.{IsFirstFreeFailure}
use Rattle.certificate.specs.Starts.{counted}
use Rattle.flat_net.specs.Net.{Net}
use Rattle.schedules.specs.declared.fault.ScheduleFault.{ScheduleFault}
use Rattle.schedules.specs.Document.{Listed, sched_of}
use Rattle.schedules.specs.Entries.{HasWhatIsListed}
use Rattle.schedule_replay.specs.Outcome.{PlainOutcome, IsFreeReplay}
use Rattle.schedules.specs.Schedule.{PlainSchedule}
use Rattle.schedule_replay.specs.Waves.{AreFreeWaves}
use Rattle.vcd_text.specs.Text.{vcd_text}
use Rattle.tmr_outside.specs.Contents.{Contents}
use Rattle.tmr_top.specs.declared.decision.Verdict.{Verdict}
use Rattle.tmr_top.specs.declared.decision.Verdict.TheVariants.{Done, NotAccepted, Refused}
use Rattle.tmr_words.specs.Line.{Replaying}
use Rattle.tmr_top.specs.Loads.{Load, schedule_file}
use Rattle.tmr_top.specs.Files.{Holds}
use Rattle.tmr_top.specs.Pairs.{ReadPair, HoldsPair, Accepts}
use Rattle.tmr_texts.specs.Reasons.{schedule_reason}
use Rattle.tmr_texts.specs.ReplayText.{replay_lines, output_waves}
use Rattle.tmr_texts.specs.Texts.{not_accepted_line, refused_line}
use Rattle.tmr_top.specs.Validated.{IsPairUnread}

-- the file holds a schedule for the pair, by the version of its certificate, and lists this
abbrev pub HoldsSchedule : Contents → Load → ReadPair → Listed → Type 0
HoldsSchedule held load r l =
    Holds held load (λ bytes. sched_of r.certificate.version bytes r.original (counted r.certificate r.free) r.hardened ≡ Ok l)

-- the file holds no schedule for it, and this is the first fault
abbrev pub HoldsNoSchedule : Contents → Load → ReadPair → ScheduleFault → Type 0
HoldsNoSchedule held load r fault =
    Holds held load (λ bytes. sched_of r.certificate.version bytes r.original (counted r.certificate r.free) r.hardened ≡ Err fault)

-- there are too many waves to be saved: outputs times cycles are more than 4,194,304
abbrev pub is_too_large : Option (List ℕ) → Net → ℕ → Bool
is_too_large None n cycles = false
is_too_large (Some name) n cycles = nat_lt 4194304 (length n.outputs * cycles)

-- all four files are read
pub record ReadFiles (w : Replaying) (held : Contents) : Type 0 where
  pub pair : ReadPair
  pub holds : HoldsPair held w.pair pair
  pub listed : Listed
  pub schedule_read : HoldsSchedule held (schedule_file w.schedule) pair listed

-- the values of the outputs and their copies, by the same two traces, are saved where `wave` is the command
pub record AreSaved (r : ReadPair) (s : PlainSchedule) (saved : List (List ℕ)) : Type 0 where
  pub values : List Bool
  pub waves : AreFreeWaves r.original r.free r.hardened r.hardened_free r.certificate s values
  pub text : saved ≡ vcd_text (output_waves r.original) (length s.rows) values ∷ []

abbrev pub SavesWaves : Option (List ℕ) → ReadPair → PlainSchedule → List (List ℕ) → Type 0
SavesWaves None r s saved = saved ≡ []
SavesWaves (Some name) r s saved = AreSaved r s saved

-- done: all four files are read, the eight rules hold, and what the schedule does is told, by the one trace of each design; where
-- the certificate allows the schedule, nothing is wrong and nothing late
pub record IsReplayed (w : Replaying) (held : Contents) (saved : List (List ℕ)) (text : List ℕ) : Type 0 where
  pub files : ReadFiles w held
  pub room : is_too_large w.waves files.pair.original (length files.listed.rows) ≡ false
  pub accepts : Accepts files.pair
  pub schedule : PlainSchedule
  pub is_listed : HasWhatIsListed (length files.pair.original.inputs) files.listed schedule
  pub outcome : PlainOutcome
  pub replayed : IsFreeReplay files.pair.original files.pair.free files.pair.hardened files.pair.hardened_free files.pair.certificate schedule outcome
  pub masked : IsTrue outcome.allowed → (outcome.wrong ≡ 0) × (outcome.late ≡ 0)
  pub says : text ≡ replay_lines files.pair.original schedule outcome
  pub saves : SavesWaves w.waves files.pair schedule saved

-- not accepted: all four files are read, and some rule fails; the least rule is told, and for it the least place
pub record IsReplayDenied (w : Replaying) (held : Contents) (text : List ℕ) : Type 0 where
  pub files : ReadFiles w held
  pub room : is_too_large w.waves files.pair.original (length files.listed.rows) ≡ false
  pub rule : ℕ
  pub place : ℕ
  pub first : IsFirstFreeFailure files.pair.original files.pair.free files.pair.hardened files.pair.hardened_free files.pair.certificate rule place
  pub says : text ≡ not_accepted_line files.pair.hardened rule place

-- the pair is read, and the schedule is none for it
pub record IsScheduleUnread (w : Replaying) (held : Contents) (text : List ℕ) : Type 0 where
  pub pair : ReadPair
  pub holds : HoldsPair held w.pair pair
  pub fault : ScheduleFault
  pub unread : HoldsNoSchedule held (schedule_file w.schedule) pair fault
  pub says : text ≡ refused_line w.schedule (schedule_reason fault)

-- all four files are read, and there are too many waves
pub record AreWavesTooLarge (w : Replaying) (held : Contents) (text : List ℕ) : Type 0 where
  pub files : ReadFiles w held
  pub large : is_too_large w.waves files.pair.original (length files.listed.rows) ≡ true
  pub says : text ≡ refused_line w.schedule (codes "wave too large")

-- refused: the first file that is not read is told, or that there are too many waves
abbrev pub IsReplayRefused : Replaying → Contents → List ℕ → Type 0
IsReplayRefused w held text = IsPairUnread w.pair held text ⊎ IsScheduleUnread w held text ⊎ AreWavesTooLarge w held text

abbrev pub Replayed : Replaying → Contents → Verdict → List (List ℕ) → List ℕ → Type 0
Replayed w held Done saved text = IsReplayed w held saved text
Replayed w held NotAccepted saved text = IsReplayDenied w held text
Replayed w held Refused saved text = IsReplayRefused w held text
