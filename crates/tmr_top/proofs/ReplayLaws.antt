-- What a replay comes to.
use Rattle.std.proofs.Common.{◌≡◌, ◌≢◌, ℕ, ◌*◌, ◌<◌, ◌⊎◌, inl, inr, Bool, true, false, List, [], length, All, Option, Some, None, Result, Ok, Err, refl, sym, ap, ◌∙◌, subst}
use Rattle.std.specs.Prelude.{IfOk, IfErr, IsTrue, codes, if◌then◌else◌}
use Rattle.std.specs.Option.{unwrap_or}
use Rattle.std.proofs.lemmas.Bool.{eq-eqb, ne_eqb}
use Rattle.tmr_base.specs.declared.ids.Upset.{Upset}
use Rattle.flat_net.specs.Net.{Net, Design, net_count, node_of}
use Rattle.flat_net.specs.Free.{node_bit}
use Rattle.net_meaning.specs.Meaning.{upset_at, start_at, net_value, row_at, row_before, spread, IsFreeFaultTrace, HasOneTrace}
use Rattle.certificate.specs.Cert.{PlainCert, IsCert}
use Rattle.certificate.specs.Rules.{FreeCorresponds, IsFirstFreeFailure}
use Rattle.certificate.specs.Starts.{counted, spread_start}
use Rattle.validator.proofs.Starts.{node_bit_none}
use Rattle.schedules.specs.declared.fault.ScheduleFault.{ScheduleFault}
use Rattle.schedules.specs.declared.fault.ScheduleFault.TheVariants as fault
use Rattle.schedules.specs.Document.{Listed, sched_of}
use Rattle.schedules.specs.Gives.{Fails}
use Rattle.schedule_replay.specs.Outcome.{PlainOutcome, IsReplayOf, IsFreeReplay}
use Rattle.schedules.specs.Reading.{IsNodeOf, IsReadAs}
use Rattle.schedules.specs.Schedule.{PlainSchedule}
use Rattle.schedule_replay.specs.Starts.{placed_starts, given_starts}
use Rattle.schedule_replay.proofs.Quiet.{three_outputs}
use Rattle.campaigns.proofs.RunLaws.{shown_outputs}
use Rattle.tmr_outside.specs.Contents.{Contents}
use Rattle.tmr_words.specs.Line.{Replaying, Replay}
use Rattle.tmr_top.specs.declared.commands.replay.ReplayRead.{ReplayRead}
use Rattle.tmr_top.specs.declared.decision.Work.{Work}
use Rattle.tmr_top.specs.Private.Works.{save_texts, IsWorkOver}
use Rattle.tmr_top.proofs.RoomLaws.{done_over}
use Rattle.tmr_top.specs.declared.loads.Stop.{Stop}
use Rattle.tmr_top.specs.declared.loads.Stop.TheVariants as stop
use Rattle.tmr_top.specs.declared.pair_files.PairRead.{PairRead}
use Rattle.tmr_top.specs.Loads.{Load, schedule_file, wave_names}
use Rattle.tmr_top.specs.Private.Opened.{HoldsBytes, IsRefusal, Gives}
use Rattle.tmr_top.specs.Private.PairFiles.{pair_of}
use Rattle.tmr_top.specs.Private.Refused.{Refuses}
use Rattle.tmr_top.specs.Pairs.{ReadPair, HoldsPair, Accepts}
use Rattle.tmr_texts.specs.Reasons.{schedule_reason}
use Rattle.tmr_texts.specs.ReplayText.{replay_lines}
use Rattle.tmr_top.specs.Replayed.{HoldsNoSchedule, ReadFiles, SavesWaves, IsReplayed, IsReplayDenied, IsReplayRefused, is_too_large}
use Rattle.tmr_top.specs.Private.Replaying.{ReadsSchedule, IsBeforeSchedule, IsReplayable, IsReplayRead, IsTooLargeStop, IsTold, IsToldWork}
use Rattle.tmr_texts.specs.Texts.{not_accepted_line, refused_line}

-- ---- reading, by the version of the certificate

counted_none : (k : PlainCert) (free : List Bool) → k.version ≡ 1 → counted k free ≡ []
counted_none k free e = ap (λ (b : Bool). if b then [] else free) (eq-eqb k.version 1 e)

counted_all : (k : PlainCert) (free : List Bool) → k.version ≢ 1 → counted k free ≡ free
counted_all k free e = ap (λ (b : Bool). if b then [] else free) (ne_eqb k.version 1 e)

pub version_two : (k : PlainCert) → IsCert k → k.version ≢ 1 → k.version ≡ 2
version_two k is other = go is.known_version
  where
    go : (k.version ≡ 1) ⊎ (k.version ≡ 2) → k.version ≡ 2
    go (inl e) = absurd (other e)
    go (inr e) = e

same_plain : (k : PlainCert) (bytes : List ℕ) (n h : Net) (free : List Bool) → k.version ≡ 1 → sched_of 1 bytes n [] h ≡ sched_of k.version bytes n (counted k free) h
same_plain k bytes n h free e = ap (λ (v : ℕ). sched_of v bytes n [] h) (sym e) ∙ ap (λ (f : List Bool). sched_of k.version bytes n f h) (sym (counted_none k free e))

same_free : (k : PlainCert) (bytes : List ℕ) (n h : Net) (free : List Bool) → k.version ≢ 1 → k.version ≡ 2 → sched_of 2 bytes n free h ≡ sched_of k.version bytes n (counted k free) h
same_free k bytes n h free other e = ap (λ (v : ℕ). sched_of v bytes n free h) (sym e) ∙ ap (λ (f : List Bool). sched_of k.version bytes n f h) (sym (counted_all k free other))

pub read_plain : (k : PlainCert) (bytes : List ℕ) (n h : Net) (free : List Bool) (s : PlainSchedule) → k.version ≡ 1 → IsReadAs (length n.inputs) (sched_of 1 bytes n [] h) s → IsReadAs (length n.inputs) (sched_of k.version bytes n (counted k free) h) s
read_plain k bytes n h free s e is = subst (λ (r : Result Listed ScheduleFault). IsReadAs (length n.inputs) r s) (same_plain k bytes n h free e) is

pub read_free : (k : PlainCert) (bytes : List ℕ) (n h : Net) (free : List Bool) (s : PlainSchedule) → k.version ≢ 1 → k.version ≡ 2 → IsReadAs (length n.inputs) (sched_of 2 bytes n free h) s → IsReadAs (length n.inputs) (sched_of k.version bytes n (counted k free) h) s
read_free k bytes n h free s other e is = subst (λ (r : Result Listed ScheduleFault). IsReadAs (length n.inputs) r s) (same_free k bytes n h free other e) is

pub fails_plain : (k : PlainCert) (bytes : List ℕ) (n h : Net) (free : List Bool) (f : ScheduleFault) → k.version ≡ 1 → Fails f (sched_of 1 bytes n [] h) → Fails f (sched_of k.version bytes n (counted k free) h)
fails_plain k bytes n h free f e is = subst (λ (r : Result Listed ScheduleFault). Fails f r) (same_plain k bytes n h free e) is

pub fails_free : (k : PlainCert) (bytes : List ℕ) (n h : Net) (free : List Bool) (f : ScheduleFault) → k.version ≢ 1 → k.version ≡ 2 → Fails f (sched_of 2 bytes n free h) → Fails f (sched_of k.version bytes n (counted k free) h)
fails_free k bytes n h free f other e is = subst (λ (r : Result Listed ScheduleFault). Fails f r) (same_free k bytes n h free other e) is

pub ruleset readings = (version_two, read_plain, read_free, fails_plain, fails_free)

-- ---- a replay where nothing is marked is one where no mark counts

no_start : (n : Net) (w : List Bool) (x : ℕ) → start_at n [] w x ≡ None
no_start n w x = ap (λ (b : Bool). if b then Some (node_bit (length n.inputs) w x) else None) (node_bit_none (length n.inputs) x)

any_start : (n : Net) (u w : List Bool) (ins : List (List Bool)) (s : List Upset) (tr : List (List Bool)) → IsFreeFaultTrace n [] u ins s tr → IsFreeFaultTrace n [] w ins s tr
any_start n u w ins s tr is = record {
  long = is.long;
  wide = is.wide;
  equations = λ t x l h. is.equations t x l h ∙ ap (λ (o : Option Bool). unwrap_or (upset_at s t x) (net_value (node_of n x) o t (row_at ins t) (row_before tr t) (row_at tr t) x)) (no_start n u x ∙ sym (no_start n w x));
}

one_trace : (n : Net) (u w : List Bool) (ins : List (List Bool)) (s : List Upset) → HasOneTrace n [] u ins s → HasOneTrace n [] w ins s
one_trace n u w ins s one = record {
  trace = one.trace;
  is_trace = any_start n u w ins s one.trace one.is_trace;
  only = λ tr is. one.only tr (any_start n w u ins s tr is);
}

replay_with : (n h : Net) (u w : List Bool) (k : PlainCert) (s : PlainSchedule) (o : PlainOutcome) → IsReplayOf n [] [] h [] [] k s o → IsReplayOf n [] u h [] w k s o
replay_with n h u w k s o is = record {
  original = one_trace n [] u s.rows [] is.original;
  hardened = one_trace h [] w (spread s.rows) s.upsets is.hardened;
  outcome = λ tr ft one other. is.outcome tr ft (any_start n u [] s.rows [] tr one) (any_start h w [] (spread s.rows) s.upsets ft other);
}

free_replay : (n : Net) (f : List Bool) (h : Net) (g : List Bool) (k : PlainCert) (s : PlainSchedule) (o : PlainOutcome) → k.version ≡ 1 → IsReplayOf n [] [] h [] [] k s o → IsFreeReplay n f h g k s o
free_replay n f h g k s o e is =
    subst (λ (b : List Bool). IsReplayOf n (counted k f) (given_starts k f s) h b (spread_start k (given_starts k f s)) k s o) (sym (counted_none k g e))
    (subst (λ (a : List Bool). IsReplayOf n a (placed_starts a s.starts) h [] (spread_start k (placed_starts a s.starts)) k s o) (sym (counted_none k f e))
    (replay_with n h (placed_starts [] s.starts) (spread_start k (placed_starts [] s.starts)) k s o is))

pub replay_plain : (a n : Design) (f : List Bool) (b h : Design) (g : List Bool) (k : PlainCert) (s : PlainSchedule) (o : PlainOutcome) → a ≡ n → b ≡ h → k.version ≡ 1 → IsReplayOf a.net [] [] b.net [] [] k s o → IsFreeReplay n.net f h.net g k s o
replay_plain a n f b h g k s o one other e is =
    free_replay n.net f h.net g k s o e
    (subst (λ (d : Design). IsReplayOf n.net [] [] d.net [] [] k s o) other
    (subst (λ (d : Design). IsReplayOf d.net [] [] b.net [] [] k s o) one is))

pub ruleset replays = (version_two, replay_plain)

-- ---- a replay of a pair that is accepted

pub three_inputs : (n : Net) (f : List Bool) (h : Net) (g : List Bool) (k : PlainCert) → FreeCorresponds n f h g k → length h.inputs ≡ 3 * length n.inputs
three_inputs n f h g k all = (all 1 0).inputs refl refl

pub outputs_in_threes : (n : Net) (f : List Bool) (h : Net) (g : List Bool) (k : PlainCert) → FreeCorresponds n f h g k → length h.outputs ≡ 3 * length n.outputs
outputs_in_threes n f h g k all = three_outputs n h k (λ place. (all 8 place).outputs refl)

pub told : (waves : Option (List ℕ)) (n : Net) (f : List Bool) (h : Net) (g : List Bool) (k : PlainCert) (s : PlainSchedule) (o : PlainOutcome) (saved : List (List ℕ)) (text : List ℕ) → IsFreeReplay n f h g k s o → (IsTrue o.allowed → (o.wrong ≡ 0) × (o.late ≡ 0)) → text ≡ replay_lines n s o → SavesWaves waves (record { original = n; free = f; hardened = h; hardened_free = g; certificate = k }) s saved → IsTold waves (record { original = n; free = f; hardened = h; hardened_free = g; certificate = k }) s saved text
told waves n f h g k s o saved text replayed masked says saves = record { outcome = o; replayed = replayed; masked = masked; says = says; saves = saves }

pub ruleset done = (three_inputs, outputs_in_threes, shown_outputs, told)

-- ---- what is told, in the words of the command

module _ (w : Replaying) (held : Contents) (r : ReadPair) (holds : HoldsPair held w.pair r) (s : PlainSchedule) (reads : ReadsSchedule held (schedule_file w.schedule) r s) where
  abbrev files_read : ReadFiles w held
  files_read = record { pair = r; holds = holds; listed = reads.listed; schedule_read = reads.read }

  -- as many rows as are listed
  same_size : (b : Bool) → is_too_large w.waves r.original (length s.rows) ≡ b → is_too_large w.waves r.original (length reads.listed.rows) ≡ b
  same_size b e = ap (λ (rows : List (List Bool)). is_too_large w.waves r.original (length rows)) (sym reads.is_listed.rows) ∙ e

  pub replayed_outcome : (saved : List (List ℕ)) (text : List ℕ) → is_too_large w.waves r.original (length s.rows) ≡ false → Accepts r → IsTold w.waves r s saved text → IsReplayed w held saved text
  replayed_outcome saved text room accepts tells = record {
    files = files_read;
    room = same_size false room;
    accepts = accepts;
    schedule = s;
    is_listed = reads.is_listed;
    outcome = tells.outcome;
    replayed = tells.replayed;
    masked = tells.masked;
    says = tells.says;
    saves = tells.saves;
  }

  pub denied_outcome : (rule place : ℕ) → is_too_large w.waves r.original (length s.rows) ≡ false → IsFirstFreeFailure r.original r.free r.hardened r.hardened_free r.certificate rule place → IsReplayDenied w held (not_accepted_line r.hardened rule place)
  denied_outcome rule place room first = record { files = files_read; room = same_size false room; rule = rule; place = place; first = first; says = refl }

  pub large_refused : (text : List ℕ) → is_too_large w.waves r.original (length s.rows) ≡ true → text ≡ refused_line w.schedule (codes "wave too large") → IsReplayRefused w held text
  large_refused text large says = inr (inr (record { files = files_read; large = same_size true large; says = says }))

-- a fault that is no want of memory is what reading gives
pub schedule_fault : (f : ScheduleFault) (read : Result Listed ScheduleFault) → Fails f read → f ≢ fault.Memory → read ≡ Err f
schedule_fault fault.NotToml read fails caused = fails
schedule_fault fault.Top read fails caused = fails
schedule_fault fault.TooMany read fails caused = fails
schedule_fault (fault.Row t) read fails caused = fails
schedule_fault (fault.Entry j) read fails caused = fails
schedule_fault (fault.UnknownNet j) read fails caused = fails
schedule_fault (fault.Range j) read fails caused = fails
schedule_fault (fault.Doubled j) read fails caused = fails
schedule_fault fault.Start read fails caused = fails
schedule_fault fault.Memory read fails caused = absurd (caused refl)

module _ (held : Contents) (load : Load) (bytes : List ℕ) (n h : Net) (a c : List Bool) (k : PlainCert) (there : HoldsBytes held load bytes) where
  abbrev lists : List ℕ → Result Listed ScheduleFault
  lists bytes = sched_of k.version bytes n (counted k a) h

  pub holds_no_schedule : (f : ScheduleFault) → sched_of k.version bytes n (counted k a) h ≡ Err f → HoldsNoSchedule held load (record { original = n; free = a; hardened = h; hardened_free = c; certificate = k }) f
  holds_no_schedule f e = record { bytes = there.bytes; there = there.there; short = there.short; fact = ap lists there.fact ∙ e }

  pub reads_schedule : (s : PlainSchedule) → IsReadAs (length n.inputs) (sched_of k.version bytes n (counted k a) h) s → ReadsSchedule held load (record { original = n; free = a; hardened = h; hardened_free = c; certificate = k }) s
  reads_schedule s is = go (lists bytes) refl is
    where
      go : (r : Result Listed ScheduleFault) → lists bytes ≡ r → IsReadAs (length n.inputs) r s → ReadsSchedule held load (record { original = n; free = a; hardened = h; hardened_free = c; certificate = k }) s
      go (Ok l) e has = record {
        listed = l;
        read = record { bytes = there.bytes; there = there.there; short = there.short; fact = ap lists there.fact ∙ e };
        is_listed = has;
      }
      go (Err f) e has = absurd has

-- the schedule of a pair, or why its file is refused
module _ (w : Replaying) (pair : PairRead) (bytes : List ℕ) where
  abbrev gives_schedule : Result PlainSchedule Stop → Type 0
  gives_schedule answer = Gives (IsBeforeSchedule w pair bytes) (λ s held. ReadsSchedule held (schedule_file w.schedule) (pair_of pair) s) (λ line held. IsReplayRefused w held line) answer

  reads_it : (s : PlainSchedule) (held : Contents) → IsReadAs (length pair.original.design.net.inputs) (sched_of pair.certificate.version bytes pair.original.design.net (counted pair.certificate pair.original.free) pair.hardened.design.net) s → IsBeforeSchedule w pair bytes held → ReadsSchedule held (schedule_file w.schedule) (pair_of pair) s
  reads_it s held is before = reads_schedule held (schedule_file w.schedule) bytes pair.original.design.net pair.hardened.design.net pair.original.free pair.hardened.free pair.certificate before.loaded s is

  pub schedule_gives : (s : PlainSchedule) (answer : Result PlainSchedule Stop) → IsReadAs (length pair.original.design.net.inputs) (sched_of pair.certificate.version bytes pair.original.design.net (counted pair.certificate pair.original.free) pair.hardened.design.net) s → IfOk answer (λ t. t ≡ s) → IfErr answer (IsTooLargeStop w.schedule (is_too_large w.waves pair.original.design.net (length s.rows))) → Gives (IsBeforeSchedule w pair bytes) (λ t held. ReadsSchedule held (schedule_file w.schedule) (pair_of pair) t) (λ line held. IsReplayRefused w held line) answer
  schedule_gives s (Ok t) is same large = λ held before. subst (λ (x : PlainSchedule). ReadsSchedule held (schedule_file w.schedule) (pair_of pair) x) (sym same) (reads_it s held is before)
  schedule_gives s (Err why) is same large = go why large.refuses
    where
      go : (why : Stop) → Refuses (refused_line w.schedule (codes "wave too large")) why → IsRefusal (IsBeforeSchedule w pair bytes) (λ line held. IsReplayRefused w held line) why
      go (stop.Failed name) says = absurd says
      go (stop.TooLong name) says = absurd says
      go (stop.Refused line) says = λ held before. large_refused w held (pair_of pair) before.holds s (reads_it s held is before) line.items large.large says
      go stop.Memory says = tt

  pub schedule_refused : (f : ScheduleFault) (line : List ℕ) (held : Contents) → line ≡ refused_line w.schedule (schedule_reason f) → sched_of pair.certificate.version bytes pair.original.design.net (counted pair.certificate pair.original.free) pair.hardened.design.net ≡ Err f → IsBeforeSchedule w pair bytes held → IsReplayRefused w held line
  schedule_refused f line held says e before = inr (inl (record {
    pair = pair_of pair;
    holds = before.holds;
    fault = f;
    unread = holds_no_schedule held (schedule_file w.schedule) bytes pair.original.design.net pair.hardened.design.net pair.original.free pair.hardened.free pair.certificate before.loaded f e;
    says = says;
  }))

pub replayable : (waves : Option (List ℕ)) (pair : PairRead) (s : PlainSchedule) (answer : Result PlainSchedule Stop) → s.inputs ≡ length pair.original.design.net.inputs → (pair.certificate.version ≡ 1 → All (λ u. IsNodeOf pair.hardened.design.net u.net.0) s.upsets) → All (λ u. u.net.0 < net_count pair.hardened.design.net) s.upsets → IfOk answer (λ t. t ≡ s) → IfOk answer (λ t. is_too_large waves pair.original.design.net (length t.rows) ≡ false) → IfOk answer (IsReplayable waves pair)
replayable waves pair s (Ok t) rows nodes nets same room = record {
  rows = ap (λ (x : PlainSchedule). x.inputs) same ∙ rows;
  nodes = λ e. subst (λ (x : PlainSchedule). All (λ u. IsNodeOf pair.hardened.design.net u.net.0) x.upsets) (sym same) (nodes e);
  nets = subst (λ (x : PlainSchedule). All (λ u. u.net.0 < net_count pair.hardened.design.net) x.upsets) (sym same) nets;
  room = room;
}
replayable waves pair s (Err why) rows nodes nets same room = tt

-- what is told of a pair that is accepted
pub told_over : (w : Replaying) (read : ReplayRead) (v : Work) → is_too_large w.waves read.pair.original.design.net (length read.schedule.rows) ≡ false → Accepts (pair_of read.pair) → IsToldWork w.waves (pair_of read.pair) read.schedule v → IsWorkOver (Replay w) (IsReplayRead w read) v
told_over w read v room accepts is =
    done_over (Replay w) (IsReplayRead w read) (wave_names w.waves) (save_texts v.saves.items) v.text.items v (record { done = is.done; names_are = is.names_are; texts_are = refl; says = refl }) refl (λ t e. cc)
    (λ held all. replayed_outcome w held (pair_of read.pair) all.holds read.schedule all.schedule_read (save_texts v.saves.items) v.text.items room accepts is.told)
    (λ held all p e. absurd cc)
