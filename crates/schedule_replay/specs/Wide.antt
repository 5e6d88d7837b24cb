-- A replay of up to 64 runs between two cycles. Private functions alone cite it.
use Rattle.std.specs.Prelude.{◌≡◌, ℕ, ◌+◌, ◌*◌, ◌<◌, ◌≤◌, ◌||◌, ◌↔◌, IsTrue, Bool, nat_eq, nat_le, List, [], ◌∷◌, ◌++◌, All, length, slice_get, slice_index, option_map, replicate, Some, None, if◌then◌else◌}
use Rattle.tmr_base.specs.declared.ids.NetId.{NetId}
use Rattle.tmr_base.specs.declared.ids.Upset.{Upset}
use Rattle.table_cover.specs.Words.{word_bit, bits_of}
use Rattle.flat_net.specs.Net.{Net, net_count, node_of, IsTable}
use Rattle.net_meaning.specs.Meaning.{start_at}
use Rattle.certificate.specs.Cert.{PlainCert}
use Rattle.certificate.specs.Schedules.{Allowed}
use Rattle.net_simulator.specs.Cycle.{forced_in}
use Rattle.net_simulator.proofs.OneCycle.{before_cycle}
use Rattle.schedule_replay.specs.declared.outcome.Difference.{Difference}
use Rattle.schedule_replay.specs.declared.outcome.Outcome.{Outcome}
use Rattle.schedule_replay.specs.declared.wide_rows.Progress.{Progress}
use Rattle.schedule_replay.specs.declared.wide_comparing.FourWords.{FourWords}
use Rattle.schedule_replay.specs.declared.wide_running.WideRunning.{WideRunning}
use Rattle.schedule_replay.specs.declared.starts.Starts.{Starts}
use Rattle.schedule_replay.specs.Outcome.{Counts, IsReplayOf, bits_differ, one_if}
use Rattle.schedule_replay.specs.OutcomeView.{plain_outcome}
use Rattle.schedule_replay.specs.Origins.{RunsBeside}
use Rattle.schedule_replay.specs.Running.{Traces}
use Rattle.schedule_replay.specs.Starts.{start_in, MarksRegisters, AreStarts}
use Rattle.schedules.specs.Schedule.{PlainSchedule}
use Rattle.schedule_replay.specs.Striking.{IsTaken, AreLatest}
use Rattle.schedule_replay.specs.Private.Telling.{TellQuiet}

-- a run has taken its upsets before cycle t
pub record HasTaken (k : PlainCert) (us : List Upset) (t : ℕ) (p : Progress) : Type 0 where
  pub next : p.next ≤ length us
  pub taken : IsTaken us t p.next
  pub lasts : length p.lasts.items ≡ length k.depth
  pub latest : AreLatest k us p.next p.lasts.items

-- so has each run
pub record HaveTaken (k : PlainCert) (list : List PlainSchedule) (t : ℕ) (runs : List Progress) : Type 0 where
  pub long : length runs ≡ length list
  pub each : (j : ℕ) (s : PlainSchedule) (p : Progress) → slice_get list j ≡ Some s → slice_get runs j ≡ Some p → HasTaken k s.upsets t p

-- each run knows which partitions are quiet in cycle t
abbrev pub AreToldQuiet : PlainCert → List PlainSchedule → ℕ → List Progress → Type 0
AreToldQuiet k list t runs =
    (j : ℕ) (s : PlainSchedule) (p : Progress) → slice_get list j ≡ Some s → slice_get runs j ≡ Some p → TellQuiet k s.upsets t p.lasts.items

-- the two simulators are of these designs, the one runs beside the other, there is room for a cycle's inputs, and start values are of
-- nets, and of no table of the original
pub record IsWideReady (n h : Net) (k : PlainCert) (r : WideRunning) : Type 0 where
  pub original : r.original.net ≡ n
  pub hardened : r.hardened.net ≡ h
  pub row : length r.row.items ≡ length n.inputs
  pub spread : length r.spread.items ≡ 3 * length n.inputs
  pub original_range : All (λ f. f.0.0 < net_count n) r.original_starts.items
  pub hardened_range : All (λ f. f.0.0 < net_count h) r.hardened_starts.items
  pub beside : RunsBeside n h k r.hardened
  pub registers : (j x : ℕ) → j < 64 → IsTable (node_of n x) → forced_in j r.original_starts.items x ≡ None

-- these triples give the marked registers of run j their start values, and nothing else, as far as cycle t goes
abbrev pub AreStartsIn : Net → List Bool → List Bool → ℕ → ℕ → List (NetId × ℕ × ℕ) → Type 0
AreStartsIn n free w t j starts = (x : ℕ) → x < net_count n → forced_in j starts x ≡ start_in t (start_at n free w x)

-- run j has run the first t cycles of these traces
pub record HasRunWide (n h : Net) (v : Traces) (t j : ℕ) (r : WideRunning) : Type 0 where
  pub original : option_map (bits_of j) r.original.last ≡ before_cycle v.original t
  pub hardened : option_map (bits_of j) r.hardened.last ≡ before_cycle v.hardened t
  pub original_starts : AreStartsIn n v.marks v.starts t j r.original_starts.items
  pub hardened_starts : AreStartsIn h v.hardened_marks v.hardened_starts t j r.hardened_starts.items

-- outcome j is that of schedule j, wherever the marked registers begin with these values
pub record AreReplaysFrom (n h : Net) (starts : Starts) (k : PlainCert) (list : List PlainSchedule) (outcomes : List Outcome) : Type 0 where
  pub long : length outcomes ≡ length list
  pub each : (j : ℕ) (s : PlainSchedule) (o : Outcome) (f w g u : List Bool) → slice_get list j ≡ Some s → slice_get outcomes j ≡ Some o
      → MarksRegisters n f → MarksRegisters h g → AreStarts n f w 0 starts.original.items → AreStarts h g u 0 starts.hardened.items
      → IsReplayOf n f w h g u k s (plain_outcome o)

-- output i and its copies in cycle t of run j
abbrev pub difference_in : FourWords → ℕ → ℕ → ℕ → Difference
difference_in w t i j = record {
  cycle = t;
  output = i;
  original = word_bit j w.original;
  copies = word_bit j w.first ∷ word_bit j w.second ∷ word_bit j w.third ∷ [];
}

-- how many copies differ in run j
abbrev pub wrong_in : FourWords → ℕ → ℕ
wrong_in w j =
    one_if (bits_differ (word_bit j w.original) (word_bit j w.first))
    + one_if (bits_differ (word_bit j w.original) (word_bit j w.second))
    + one_if (bits_differ (word_bit j w.original) (word_bit j w.third))

-- the cycle behind the last upset tells that the partition is quiet
abbrev pub is_told_quiet : ℕ → ℕ → ℕ → Bool
is_told_quiet last depth t = nat_eq last 0 || nat_le (last + depth) t

-- those that count
abbrev pub late_in_run : FourWords → Bool → ℕ → ℕ
late_in_run w quiet j = if quiet then wrong_in w j else 0

-- these outputs, of which there are so many at most, were counted too
pub record HasNoted (count : ℕ) (a b : Outcome) : Type 0 where
  pub differences : b.differences ≤ a.differences + count
  pub wrong : b.wrong ≤ a.wrong + count
  pub late : b.late ≡ a.late
  pub allowed : b.allowed ≡ a.allowed

-- and by them the numbers of a list became those of a longer one
abbrev pub Notes : List Difference → Outcome → Outcome → Type 0
Notes more a b = (ds : List Difference) → Counts ds a.first.items a.differences a.wrong → Counts (ds ++ more) b.first.items b.differences b.wrong

-- nothing was counted yet
pub record HasBegun (k : PlainCert) (s : PlainSchedule) (o : Outcome) : Type 0 where
  pub allowed : IsTrue o.allowed ↔ Allowed s.upsets k
  pub first : o.first.items ≡ []
  pub differences : o.differences ≡ 0
  pub wrong : o.wrong ≡ 0
  pub late : o.late ≡ 0

-- of each schedule
pub record HaveBegun (k : PlainCert) (list : List PlainSchedule) (outcomes : List Outcome) : Type 0 where
  pub long : length outcomes ≡ length list
  pub each : (j : ℕ) (s : PlainSchedule) (o : Outcome) → slice_get list j ≡ Some s → slice_get outcomes j ≡ Some o → HasBegun k s o

-- run i has taken its upsets of cycle t too, and knows which partitions are quiet
pub record TakesCycle (k : PlainCert) (us : List Upset) (t : ℕ) (p : Progress) : Type 0 where
  pub taken : HasTaken k us (t + 1) p
  pub quiet : TellQuiet k us t p.lasts.items

abbrev pub HasTurned : PlainCert → List PlainSchedule → ℕ → ℕ → Progress → Progress → Type 0
HasTurned k list t i a b = (s : PlainSchedule) → slice_get list i ≡ Some s → TakesCycle k s.upsets t b

-- these outputs, of which there are so many at most, were noted
pub record IsNoted (more : List Difference) (count : ℕ) (a b : Outcome) : Type 0 where
  pub grown : HasNoted count a b
  pub notes : Notes more a b

-- output i of cycle t was noted in run j
abbrev pub NotesRun : FourWords → ℕ → ℕ → ℕ → Outcome → Outcome → Type 0
NotesRun w t i j a b = IsNoted (difference_in w t i j ∷ []) 1 a b

-- a node of partition p was counted in run j
abbrev pub LateRun : FourWords → List Progress → ℕ → ℕ → ℕ → ℕ → Outcome → Outcome → Type 0
LateRun w runs p depth t j a b =
    (q : Progress) → slice_get runs j ≡ Some q →
    b ≡ record a { late = a.late + late_in_run w (is_told_quiet (slice_index q.lasts.items p) depth t) j }

-- no partition was struck yet
pub record IsFresh (k : PlainCert) (p : Progress) : Type 0 where
  pub next : p.next ≡ 0
  pub lasts : p.lasts.items ≡ replicate (length k.depth) 0
