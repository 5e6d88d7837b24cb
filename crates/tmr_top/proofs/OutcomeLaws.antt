-- A command comes to one verdict.
use Rattle.std.proofs.Common.{◌≡◌, ◌⊎◌, ℕ, Bool, true, false, List, length, Option, Some, Result, Ok, Err, inl, inr, refl, sym, ap, ◌∙◌, subst}
use Rattle.std.specs.FinMap.{get}
use Rattle.tmr_outside.specs.Contents.{Contents}
use Rattle.tmr_top.specs.declared.decision.Verdict.{Verdict}
use Rattle.tmr_top.specs.declared.decision.Verdict.TheVariants.{Done, NotAccepted, Refused}
use Rattle.tmr_words.specs.Line.{Command, Pair, Hardening, Flattening, Replaying, Guarding, Graphing, Validate, Harden, Flatten, Replay, Report, Guard, CheckGuard, WriteGraph, ReadGraph, TryOut, Help, Version}
use Rattle.tmr_words.specs.Line.{Certifying, Sweeping, Campaigning, Picturing, Certify, Exposure, Sweep, Explain, Campaign, Picture}
use Rattle.tmr_top.specs.Loads.{original_file, hardened_file}
use Rattle.tmr_top.specs.Pairs.{ReadPair, HoldsPair, Accepts}
use Rattle.tmr_top.specs.Replayed.{Replayed, ReadFiles, IsReplayDenied, IsReplayRefused, is_too_large}
use Rattle.tmr_top.specs.ByWords.{is_decided}
use Rattle.tmr_top.specs.Validated.{Validated, IsOriginalUnread, IsHardenedUnread}
use Rattle.tmr_top.specs.Certified.{Certified, certified_pair, HeldDesigns}
use Rattle.tmr_top.specs.Exposed.{Exposed}
use Rattle.tmr_top.specs.Swept.{SweptOver}
use Rattle.tmr_top.specs.Explained.{Explained, IsExplained}
use Rattle.tmr_top.specs.Campaigned.{Campaigned}
use Rattle.tmr_top.specs.Pictured.{Pictured}
use Rattle.tmr_top.specs.Hardened.{Hardened}
use Rattle.tmr_top.specs.Flattened.{Flattened}
use Rattle.tmr_top.specs.Reported.{Reported}
use Rattle.tmr_top.specs.Guarded.{Guarded, GuardChecked, IsUnguarded, IsGuardUnread, ReadGuard}
use Rattle.tmr_top.specs.Graphed.{Graphed}
use Rattle.dwc.specs.Answer.{BreaksFirst}
use Rattle.dwc.specs.Guard.{guard_net}
use Rattle.tmr_top.specs.Outcomes.{Outcome}
use Rattle.tmr_top.proofs.GuardLaws.{no_failure}
use Rattle.tmr_top.proofs.DesignLaws.{one_design, design_or_none}
use Rattle.schedules.specs.declared.fault.ScheduleFault.{ScheduleFault}
use Rattle.schedules.specs.Document.{Listed, sched_of}
use Rattle.certificate.specs.Starts.{counted}
use Rattle.tmr_top.proofs.PairLaws.{one_pair, unread_pair, agrees}
use Rattle.tmr_top.proofs.ShownLaws.{unshown_pair}
use Rattle.tmr_top.proofs.GraphReadLaws.{one_graph_read}
use Rattle.tmr_top.proofs.TrialVerdicts.{one_tried}
use Rattle.tmr_texts.specs.Help.{help_text, version_text}
use Rattle.tmr_top.proofs.HelpLaws.{one_told}

one_validated : (p : Pair) (held : Contents) (v w : Verdict) (s t : List (List ℕ)) (x y : List ℕ) → Validated p held v s x → Validated p held w t y → v ≡ w
one_validated p held Done Done s t x y one other = refl
one_validated p held NotAccepted NotAccepted s t x y one other = refl
one_validated p held Refused Refused s t x y one other = refl
one_validated p held Done NotAccepted s t x y one other = absurd (agrees held p one.0.pair y one.0.holds one.0.accepts other)
one_validated p held NotAccepted Done s t x y one other = absurd (agrees held p other.0.pair x other.0.holds other.0.accepts one)
one_validated p held Done Refused s t x y one other = absurd (unread_pair held p y one.0.pair other one.0.holds)
one_validated p held Refused Done s t x y one other = absurd (unread_pair held p x other.0.pair one other.0.holds)
one_validated p held NotAccepted Refused s t x y one other = absurd (unread_pair held p y one.pair other one.holds)
one_validated p held Refused NotAccepted s t x y one other = absurd (unread_pair held p x other.pair one other.holds)

one_hardened : (h : Hardening) (held : Contents) (v w : Verdict) (s t : List (List ℕ)) (x y : List ℕ) → Hardened h held v s x → Hardened h held w t y → v ≡ w
one_hardened h held Done Done s t x y one other = refl
one_hardened h held Refused Refused s t x y one other = refl
one_hardened h held Done Refused s t x y one other = absurd (design_or_none held (original_file h.limits h.original) one.original one.free other.reason one.holds other.unread)
one_hardened h held Refused Done s t x y one other = absurd (design_or_none held (original_file h.limits h.original) other.original other.free one.reason other.holds one.unread)
one_hardened h held NotAccepted w s t x y one other = absurd one
one_hardened h held Done NotAccepted s t x y one other = absurd other
one_hardened h held Refused NotAccepted s t x y one other = absurd other

one_flattened : (f : Flattening) (held : Contents) (v w : Verdict) (s t : List (List ℕ)) (x y : List ℕ) → Flattened f held v s x → Flattened f held w t y → v ≡ w
one_flattened f held Done Done s t x y one other = refl
one_flattened f held Refused Refused s t x y one other = refl
one_flattened f held Done Refused s t x y one other = absurd (design_or_none held (original_file f.limits f.original) one.design one.free other.reason one.holds other.unread)
one_flattened f held Refused Done s t x y one other = absurd (design_or_none held (original_file f.limits f.original) other.design other.free one.reason other.holds one.unread)
one_flattened f held NotAccepted w s t x y one other = absurd one
one_flattened f held Done NotAccepted s t x y one other = absurd other
one_flattened f held Refused NotAccepted s t x y one other = absurd other

one_reported : (p : Pair) (held : Contents) (v w : Verdict) (s t : List (List ℕ)) (x y : List ℕ) → Reported p held v s x → Reported p held w t y → v ≡ w
one_reported p held Done Done s t x y one other = refl
one_reported p held NotAccepted NotAccepted s t x y one other = refl
one_reported p held Refused Refused s t x y one other = refl
one_reported p held Done NotAccepted s t x y one other = absurd (agrees held p one.0.pair y one.0.holds one.0.accepts other)
one_reported p held NotAccepted Done s t x y one other = absurd (agrees held p other.0.pair x other.0.holds other.0.accepts one)
one_reported p held Done Refused s t x y one other = absurd (unread_pair held p y one.0.pair other one.0.holds)
one_reported p held Refused Done s t x y one other = absurd (unread_pair held p x other.0.pair one other.0.holds)
one_reported p held NotAccepted Refused s t x y one other = absurd (unread_pair held p y one.pair other one.holds)
one_reported p held Refused NotAccepted s t x y one other = absurd (unread_pair held p x other.pair one other.holds)

-- ---- replays

same_bytes : (o : Option (List ℕ)) (one other : List ℕ) → o ≡ Some one → o ≡ Some other → one ≡ other
same_bytes o one other e f = cc

-- what bytes list for a pair
abbrev lists : ReadPair → List ℕ → Result Listed ScheduleFault
lists r bytes = sched_of r.certificate.version bytes r.original (counted r.certificate r.free) r.hardened

ok_once : (x y : Result Listed ScheduleFault) (k l : Listed) → x ≡ y → x ≡ Ok k → y ≡ Ok l → k ≡ l
ok_once x y k l e f g = cc

ok_or_fault : (x y : Result Listed ScheduleFault) (k : Listed) (fault : ScheduleFault) → x ≡ y → x ≡ Ok k → y ≡ Err fault → ⊥
ok_or_fault x y k fault e f g = cc

module _ (w : Replaying) (held : Contents) where
  same_files : (r s : ReadPair) (a b : List ℕ) → r ≡ s → get held w.schedule ≡ Some a → get held w.schedule ≡ Some b → lists r a ≡ lists s b
  same_files r s a b e f g = ap (λ (p : ReadPair). lists p a) e ∙ ap (lists s) (same_bytes (get held w.schedule) a b f g)

  one_listed : (one other : ReadFiles w held) → one.listed ≡ other.listed
  one_listed one other = ok_once _ _ one.listed other.listed
      (same_files one.pair other.pair one.schedule_read.bytes other.schedule_read.bytes (one_pair held w.pair one.pair other.pair one.holds other.holds) one.schedule_read.there other.schedule_read.there)
      one.schedule_read.fact other.schedule_read.fact

  -- whether waves are too large is the same
  one_size : (one other : ReadFiles w held) → is_too_large w.waves one.pair.original (length one.listed.rows) ≡ is_too_large w.waves other.pair.original (length other.listed.rows)
  one_size one other =
      ap (λ (p : ReadPair). is_too_large w.waves p.original (length one.listed.rows)) (one_pair held w.pair one.pair other.pair one.holds other.holds)
      ∙ ap (λ (l : Listed). is_too_large w.waves other.pair.original (length l.rows)) (one_listed one other)

  small_or_large : (b c : Bool) → b ≡ c → b ≡ false → c ≡ true → ⊥
  small_or_large b c e f g = cc

  -- files that are read are not refused
  read_or_refused : (text : List ℕ) (one : ReadFiles w held) → is_too_large w.waves one.pair.original (length one.listed.rows) ≡ false → IsReplayRefused w held text → ⊥
  read_or_refused text one room (inl unread) = unread_pair held w.pair text one.pair unread one.holds
  read_or_refused text one room (inr (inl says)) =
      ok_or_fault _ _ one.listed says.fault
      (same_files one.pair says.pair one.schedule_read.bytes says.unread.bytes (one_pair held w.pair one.pair says.pair one.holds says.holds) one.schedule_read.there says.unread.there)
      one.schedule_read.fact says.unread.fact
  read_or_refused text one room (inr (inr says)) = small_or_large _ _ (one_size one says.files) room says.large

  accepted_or_denied : (text : List ℕ) (one : ReadFiles w held) → Accepts one.pair → IsReplayDenied w held text → ⊥
  accepted_or_denied text one accepts denied =
      let there : Accepts denied.files.pair = subst Accepts (one_pair held w.pair one.pair denied.files.pair one.holds denied.files.holds) accepts in
      denied.first.fails (there denied.rule denied.place)

  one_replayed : (v u : Verdict) (s t : List (List ℕ)) (x y : List ℕ) → Replayed w held v s x → Replayed w held u t y → v ≡ u
  one_replayed Done Done s t x y one other = refl
  one_replayed NotAccepted NotAccepted s t x y one other = refl
  one_replayed Refused Refused s t x y one other = refl
  one_replayed Done NotAccepted s t x y one other = absurd (accepted_or_denied y one.files one.accepts other)
  one_replayed NotAccepted Done s t x y one other = absurd (accepted_or_denied x other.files other.accepts one)
  one_replayed Done Refused s t x y one other = absurd (read_or_refused y one.files one.room other)
  one_replayed Refused Done s t x y one other = absurd (read_or_refused x other.files other.room one)
  one_replayed NotAccepted Refused s t x y one other = absurd (read_or_refused y one.files one.room other)
  one_replayed Refused NotAccepted s t x y one other = absurd (read_or_refused x other.files other.room one)

-- ---- guarded designs

one_guarded : (g : Guarding) (held : Contents) (v w : Verdict) (s t : List (List ℕ)) (x y : List ℕ) → Guarded g held v s x → Guarded g held w t y → v ≡ w
one_guarded g held Done Done s t x y one other = refl
one_guarded g held Refused Refused s t x y one other = refl
one_guarded g held Done Refused s t x y one other = absurd (design_or_none held (original_file g.limits g.original) one.original one.free other.reason one.holds other.unread)
one_guarded g held Refused Done s t x y one other = absurd (design_or_none held (original_file g.limits g.original) other.original other.free one.reason other.holds one.unread)
one_guarded g held NotAccepted w s t x y one other = absurd one
one_guarded g held Done NotAccepted s t x y one other = absurd other
one_guarded g held Refused NotAccepted s t x y one other = absurd other

module _ (w : Guarding) (held : Contents) where
  -- files that are read are not refused
  guard_or_unread : (text : List ℕ) (one : ReadGuard w held) → IsUnguarded w held text ⊎ IsGuardUnread w held text → ⊥
  guard_or_unread text one (inl unread) = design_or_none held (original_file w.limits w.original) one.original one.free unread.reason one.original_read unread.unread
  guard_or_unread text one (inr unread) = design_or_none held (hardened_file w.limits w.guarded) one.guarded one.guarded_free unread.reason one.guarded_read unread.unread

  -- a guarded design is no other one
  guard_or_other : (one other : ReadGuard w held) (rule place : ℕ) → guard_net one.original ≡ one.guarded → BreaksFirst (guard_net other.original) other.guarded rule place → ⊥
  guard_or_other one other rule place is fails =
      let original = one_design held (original_file w.limits w.original) one.original other.original one.free other.free one.original_read other.original_read in
      let guarded = one_design held (hardened_file w.limits w.guarded) one.guarded other.guarded one.guarded_free other.guarded_free one.guarded_read other.guarded_read in
      no_failure (guard_net other.original) other.guarded rule place (sym (ap guard_net original.0) ∙ (is ∙ guarded.0)) fails

  one_checked : (v u : Verdict) (s t : List (List ℕ)) (x y : List ℕ) → GuardChecked w held v s x → GuardChecked w held u t y → v ≡ u
  one_checked Done Done s t x y one other = refl
  one_checked NotAccepted NotAccepted s t x y one other = refl
  one_checked Refused Refused s t x y one other = refl
  one_checked Done NotAccepted s t x y one other = absurd (guard_or_other one.0.files other.files other.rule other.place one.0.is other.first)
  one_checked NotAccepted Done s t x y one other = absurd (guard_or_other other.0.files one.files one.rule one.place other.0.is one.first)
  one_checked Done Refused s t x y one other = absurd (guard_or_unread y one.0.files other)
  one_checked Refused Done s t x y one other = absurd (guard_or_unread x other.0.files one)
  one_checked NotAccepted Refused s t x y one other = absurd (guard_or_unread y one.files other)
  one_checked Refused NotAccepted s t x y one other = absurd (guard_or_unread x other.files one)

one_graphed : (g : Graphing) (held : Contents) (v w : Verdict) (s t : List (List ℕ)) (x y : List ℕ) → Graphed g held v s x → Graphed g held w t y → v ≡ w
one_graphed g held Done Done s t x y one other = refl
one_graphed g held Refused Refused s t x y one other = refl
one_graphed g held Done Refused s t x y one other = absurd (design_or_none held (original_file g.limits g.original) one.original.design.net one.original.free other.reason one.holds other.unread)
one_graphed g held Refused Done s t x y one other = absurd (design_or_none held (original_file g.limits g.original) other.original.design.net other.original.free one.reason other.holds one.unread)
one_graphed g held NotAccepted w s t x y one other = absurd one
one_graphed g held Done NotAccepted s t x y one other = absurd other
one_graphed g held Refused NotAccepted s t x y one other = absurd other

one_exposed : (p : Pair) (held : Contents) (v w : Verdict) (s t : List (List ℕ)) (x y : List ℕ) → Exposed p held v s x → Exposed p held w t y → v ≡ w
one_exposed p held Done Done s t x y one other = refl
one_exposed p held NotAccepted NotAccepted s t x y one other = refl
one_exposed p held Refused Refused s t x y one other = refl
one_exposed p held Done NotAccepted s t x y one other = absurd (agrees held p one.0.pair y one.0.holds one.0.accepts other)
one_exposed p held NotAccepted Done s t x y one other = absurd (agrees held p other.0.pair x other.0.holds other.0.accepts one)
one_exposed p held Done Refused s t x y one other = absurd (unread_pair held p y one.0.pair other one.0.holds)
one_exposed p held Refused Done s t x y one other = absurd (unread_pair held p x other.0.pair one other.0.holds)
one_exposed p held NotAccepted Refused s t x y one other = absurd (unread_pair held p y one.pair other one.holds)
one_exposed p held Refused NotAccepted s t x y one other = absurd (unread_pair held p x other.pair one other.holds)

one_swept : (q : Sweeping) (held : Contents) (v w : Verdict) (s t : List (List ℕ)) (x y : List ℕ) → SweptOver q held v s x → SweptOver q held w t y → v ≡ w
one_swept q held Done Done s t x y one other = refl
one_swept q held Refused Refused s t x y one other = refl
one_swept q held Done Refused s t x y one other = absurd (design_or_none held (original_file q.limits q.original) one.0.design.design.net one.0.design.free other.reason one.0.holds other.unread)
one_swept q held Refused Done s t x y one other = absurd (design_or_none held (original_file q.limits q.original) other.0.design.design.net other.0.design.free one.reason other.0.holds one.unread)
one_swept q held NotAccepted w s t x y one other = absurd one
one_swept q held Done NotAccepted s t x y one other = absurd other
one_swept q held Refused NotAccepted s t x y one other = absurd other

-- a pair of which the rules hold has no failures to be told
explained_agrees : (held : Contents) (p : Pair) (r : ReadPair) (text : List ℕ) → HoldsPair held p r → Accepts r → IsExplained p held text → ⊥
explained_agrees held p r text holds accepts differs = differs.fails (subst Accepts (one_pair held p r differs.pair holds differs.holds) accepts)

one_explained : (p : Pair) (held : Contents) (v w : Verdict) (s t : List (List ℕ)) (x y : List ℕ) → Explained p held v s x → Explained p held w t y → v ≡ w
one_explained p held Done Done s t x y one other = refl
one_explained p held NotAccepted NotAccepted s t x y one other = refl
one_explained p held Refused Refused s t x y one other = refl
one_explained p held Done NotAccepted s t x y one other = absurd (explained_agrees held p one.0.pair y one.0.holds one.0.accepts other)
one_explained p held NotAccepted Done s t x y one other = absurd (explained_agrees held p other.0.pair x other.0.holds other.0.accepts one)
one_explained p held Done Refused s t x y one other = absurd (unshown_pair held p y one.0.pair other one.0.holds)
one_explained p held Refused Done s t x y one other = absurd (unshown_pair held p x other.0.pair one other.0.holds)
one_explained p held NotAccepted Refused s t x y one other = absurd (unshown_pair held p y one.pair other one.holds)
one_explained p held Refused NotAccepted s t x y one other = absurd (unshown_pair held p x other.pair one other.holds)

one_campaigned : (q : Campaigning) (held : Contents) (v w : Verdict) (s t : List (List ℕ)) (x y : List ℕ) → Campaigned q held v s x → Campaigned q held w t y → v ≡ w
one_campaigned q held Done Done s t x y one other = refl
one_campaigned q held NotAccepted NotAccepted s t x y one other = refl
one_campaigned q held Refused Refused s t x y one other = refl
one_campaigned q held Done NotAccepted s t x y one other = absurd (agrees held q.pair one.0.pair y one.0.holds one.0.accepts other)
one_campaigned q held NotAccepted Done s t x y one other = absurd (agrees held q.pair other.0.pair x other.0.holds other.0.accepts one)
one_campaigned q held Done Refused s t x y one other = absurd (unread_pair held q.pair y one.0.pair other one.0.holds)
one_campaigned q held Refused Done s t x y one other = absurd (unread_pair held q.pair x other.0.pair one other.0.holds)
one_campaigned q held NotAccepted Refused s t x y one other = absurd (unread_pair held q.pair y one.pair other one.holds)
one_campaigned q held Refused NotAccepted s t x y one other = absurd (unread_pair held q.pair x other.pair one other.holds)

one_pictured : (q : Picturing) (held : Contents) (v w : Verdict) (s t : List (List ℕ)) (x y : List ℕ) → Pictured q held v s x → Pictured q held w t y → v ≡ w
one_pictured q held Done Done s t x y one other = refl
one_pictured q held NotAccepted NotAccepted s t x y one other = refl
one_pictured q held Refused Refused s t x y one other = refl
one_pictured q held Done NotAccepted s t x y one other = absurd (agrees held q.pair one.pair y one.holds one.accepts other)
one_pictured q held NotAccepted Done s t x y one other = absurd (agrees held q.pair other.pair x other.holds other.accepts one)
one_pictured q held Done Refused s t x y one other = absurd (unread_pair held q.pair y one.pair other one.holds)
one_pictured q held Refused Done s t x y one other = absurd (unread_pair held q.pair x other.pair one other.holds)
one_pictured q held NotAccepted Refused s t x y one other = absurd (unread_pair held q.pair y one.pair other one.holds)
one_pictured q held Refused NotAccepted s t x y one other = absurd (unread_pair held q.pair x other.pair one other.holds)

-- two designs are read, or one of the two files is refused
designs_or_refused : (q : Certifying) (held : Contents) (d : HeldDesigns q held) (y : List ℕ) → IsOriginalUnread (certified_pair q) held y ⊎ IsHardenedUnread (certified_pair q) held y → ⊥
designs_or_refused q held d y (inl none) = design_or_none held (original_file q.limits q.original) d.original d.free none.reason d.original_read none.unread
designs_or_refused q held d y (inr none) = design_or_none held (hardened_file q.limits q.hardened) d.hardened d.hardened_free none.reason d.hardened_read none.unread

certified_or_refused : (q : Certifying) (held : Contents) (v : Verdict) (s t : List (List ℕ)) (x y : List ℕ) → Certified q held v s x → Certified q held Refused t y → v ≡ Refused
certified_or_refused q held Done s t x y one other = absurd (designs_or_refused q held one.designs y other)
certified_or_refused q held NotAccepted s t x y (inl one) other = absurd (designs_or_refused q held one.designs y other)
certified_or_refused q held NotAccepted s t x y (inr one) other = absurd (designs_or_refused q held one.designs y other)
certified_or_refused q held Refused s t x y one other = refl

pub one_verdict : (c : Command) (held : Contents) (v w : Verdict) (s t : List (List ℕ)) (x y : List ℕ) → is_decided c ≡ true → Outcome c held v s x → Outcome c held w t y → v ≡ w
one_verdict (Validate p) held v w s t x y decided one other = one_validated p held v w s t x y one other
one_verdict (Harden h) held v w s t x y decided one other = one_hardened h held v w s t x y one other
one_verdict (Flatten f) held v w s t x y decided one other = one_flattened f held v w s t x y one other
one_verdict (Replay r) held v w s t x y decided one other = one_replayed r held v w s t x y one other
one_verdict (Report p) held v w s t x y decided one other = one_reported p held v w s t x y one other
one_verdict (Guard g) held v w s t x y decided one other = one_guarded g held v w s t x y one other
one_verdict (CheckGuard g) held v w s t x y decided one other = one_checked g held v w s t x y one other
one_verdict (TryOut q) held v w s t x y decided one other = one_tried q v w s t x y one other
one_verdict (Help topic) held v w s t x y decided one other = one_told (help_text topic) v w s t x y one other
one_verdict Version held v w s t x y decided one other = one_told version_text v w s t x y one other
one_verdict (WriteGraph g) held v w s t x y decided one other = one_graphed g held v w s t x y one other
one_verdict (ReadGraph g) held v w s t x y decided one other = one_graph_read g held v w s t x y one other
one_verdict (Certify q) held v w s t x y decided one other = absurd cc
one_verdict (Exposure p) held v w s t x y decided one other = one_exposed p held v w s t x y one other
one_verdict (Sweep q) held v w s t x y decided one other = one_swept q held v w s t x y one other
one_verdict (Explain p) held v w s t x y decided one other = one_explained p held v w s t x y one other
one_verdict (Campaign q) held v w s t x y decided one other = one_campaigned q held v w s t x y one other
one_verdict (Picture q) held v w s t x y decided one other = one_pictured q held v w s t x y one other

-- a command that comes to a refusal comes to nothing else
pub refused_or_not : (c : Command) (held : Contents) (v : Verdict) (s t : List (List ℕ)) (x y : List ℕ) → Outcome c held v s x → Outcome c held Refused t y → v ≡ Refused
refused_or_not (Validate p) held v s t x y one other = one_verdict (Validate p) held v Refused s t x y refl one other
refused_or_not (Harden h) held v s t x y one other = one_verdict (Harden h) held v Refused s t x y refl one other
refused_or_not (Flatten f) held v s t x y one other = one_verdict (Flatten f) held v Refused s t x y refl one other
refused_or_not (Replay r) held v s t x y one other = one_verdict (Replay r) held v Refused s t x y refl one other
refused_or_not (Report p) held v s t x y one other = one_verdict (Report p) held v Refused s t x y refl one other
refused_or_not (Guard g) held v s t x y one other = one_verdict (Guard g) held v Refused s t x y refl one other
refused_or_not (CheckGuard g) held v s t x y one other = one_verdict (CheckGuard g) held v Refused s t x y refl one other
refused_or_not (TryOut q) held v s t x y one other = one_verdict (TryOut q) held v Refused s t x y refl one other
refused_or_not (Help topic) held v s t x y one other = one_verdict (Help topic) held v Refused s t x y refl one other
refused_or_not Version held v s t x y one other = one_verdict Version held v Refused s t x y refl one other
refused_or_not (WriteGraph g) held v s t x y one other = one_verdict (WriteGraph g) held v Refused s t x y refl one other
refused_or_not (ReadGraph g) held v s t x y one other = one_verdict (ReadGraph g) held v Refused s t x y refl one other
refused_or_not (Exposure p) held v s t x y one other = one_verdict (Exposure p) held v Refused s t x y refl one other
refused_or_not (Sweep q) held v s t x y one other = one_verdict (Sweep q) held v Refused s t x y refl one other
refused_or_not (Explain p) held v s t x y one other = one_verdict (Explain p) held v Refused s t x y refl one other
refused_or_not (Campaign q) held v s t x y one other = one_verdict (Campaign q) held v Refused s t x y refl one other
refused_or_not (Picture q) held v s t x y one other = one_verdict (Picture q) held v Refused s t x y refl one other
refused_or_not (Certify q) held v s t x y one other = certified_or_refused q held v s t x y one other
