-- When each status comes, from what a run saves and prints.
use Rattle.std.proofs.Common.{◌≡◌, ◌≢◌, ◌⊎◌, ℕ, true, ◌<◌, ◌≤◌, List, [], ◌∷◌, length, Option, Some, None, inl, inr, refl, sym, ap, subst, ◌∙◌, arith}
use Rattle.std.specs.Prelude.{IfSome, IsSome, IsSomeAnd, codes}
use Rattle.std.specs.FinMap.{get}
use Rattle.tmr_outside.specs.Contents.{Contents}
use Rattle.tmr_outside.specs.Counts.{Rose, RoseOf, NoneRose}
use Rattle.tmr_outside.specs.Seen.{FilesSeen, SinkSeen, IsTold}
use Rattle.tmr_top.specs.declared.decision.Verdict.{Verdict}
use Rattle.tmr_top.specs.declared.decision.Verdict.TheVariants as verdict
use Rattle.tmr_top.specs.declared.status.Status.{Status}
use Rattle.tmr_top.specs.declared.status.Status.TheVariants as status
use Rattle.tmr_words.specs.Line.{Command}
use Rattle.tmr_top.specs.Loads.{Load, loads_of, saves_of}
use Rattle.tmr_top.specs.Files.{OfOne, OfEach, OfFirst, IsLong, IsMissing, IsFine}
use Rattle.tmr_top.specs.Changes.{LoadRose, SaveRose, LoadFailed, SaveFailed}
use Rattle.tmr_top.specs.Causes.{Where, OrMemory, ComesTo, IsRefusable, Succeeds, Disagrees, SomeMissing, SomeLoadRose, SomeSaveRose}
use Rattle.tmr_top.specs.Saves.{IsDone, Completes, IsBroken}
use Rattle.tmr_texts.specs.Texts.{load_fault_line, save_fault_line, refused_line}
use Rattle.tmr_top.specs.Runs.{Untouched, Says, SaysTooLong, SaysLoadFault, SaysSaveFault, SaysBroken, Performs, Acts, Ran}
use Rattle.tmr_top.specs.ByWords.{is_decided}
use Rattle.tmr_top.proofs.OutcomeLaws.{one_verdict, refused_or_not}
use Rattle.tmr_top.proofs.RunLaws.{same_status}

-- ---- files that are there, too long, or missing

some_or_none : (o : Option (List ℕ)) (bytes : List ℕ) → o ≡ Some bytes → o ≡ None → ⊥
some_or_none o bytes e f = cc

long_or_short : (o : Option (List ℕ)) (bytes : List ℕ) (limit : ℕ) → o ≡ Some bytes → length bytes ≤ limit → IsSomeAnd o (λ b. limit < length b) → ⊥
long_or_short None bytes limit e short long = long
long_or_short (Some b) bytes limit e short long = let same : b ≡ bytes = cc in let also : length b ≡ length bytes = ap length same in omega (arith, long)

fine_not_long : (held : Contents) (load : Load) → IsFine held load → IsLong held load → ⊥
fine_not_long held load fine long = long_or_short (get held load.name) fine.bytes load.limit fine.there fine.short long

fine_not_missing : (held : Contents) (load : Load) → IsFine held load → IsMissing held load → ⊥
fine_not_missing held load fine missing = some_or_none (get held load.name) fine.bytes fine.there missing

long_not_missing : (held : Contents) (load : Load) → IsLong held load → IsMissing held load → ⊥
long_not_missing held load long missing = go (get held load.name) long missing
  where
    go : (o : Option (List ℕ)) → IsSomeAnd o (λ b. load.limit < length b) → o ≡ None → ⊥
    go None long missing = long
    go (Some b) long missing = absurd cc

none_long : (held : Contents) (loads : List Load) → OfEach (IsFine held) loads → OfOne (IsLong held) loads → ⊥
none_long held [] fine long = long
none_long held (load ∷ loads) fine (inl here) = fine_not_long held load fine.0 here
none_long held (load ∷ loads) fine (inr later) = none_long held loads fine.1 later

none_missing : (held : Contents) (loads : List Load) → OfEach (IsFine held) loads → OfFirst held (IsMissing held) loads → ⊥
none_missing held [] fine missing = missing
none_missing held (load ∷ loads) fine (inl here) = fine_not_missing held load fine.0 here
none_missing held (load ∷ loads) fine (inr later) = none_missing held loads fine.1 later.1

long_of : (held : Contents) (text : Load → Type 0) (loads : List Load) → OfFirst held (λ load. IsLong held load × text load) loads → OfOne (IsLong held) loads
long_of held text [] first = first
long_of held text (load ∷ loads) (inl here) = inl here.0
long_of held text (load ∷ loads) (inr later) = inr (long_of held text loads later.1)

-- one file is the first that is missing, or the first that is too long, and not both
missing_or_long : (held : Contents) (text : Load → Type 0) (loads : List Load) → OfFirst held (IsMissing held) loads → OfFirst held (λ load. IsLong held load × text load) loads → ⊥
missing_or_long held text [] missing long = missing
missing_or_long held text (load ∷ loads) (inl missing) (inl long) = long_not_missing held load long.0 missing
missing_or_long held text (load ∷ loads) (inl missing) (inr later) = fine_not_missing held load later.0 missing
missing_or_long held text (load ∷ loads) (inr later) (inl long) = fine_not_long held load later.0 long.0
missing_or_long held text (load ∷ loads) (inr missing) (inr long) = missing_or_long held text loads missing.1 long.1

-- ---- what a command comes to

done_comes : (c : Command) (held : Contents) (now : Option Contents) (text : List ℕ) → IsDone c held now text → Succeeds c held
done_comes c held now text is = record { fine = is.fine; saved = is.saved; text = text; outcome = is.outcome }

broken_comes : (c : Command) (held : Contents) (old new : FilesSeen) → IsBroken c held old new → Succeeds c held
broken_comes c held old new is = record { fine = is.fine; saved = is.saved; text = is.text; outcome = is.outcome }

says_comes : (c : Command) (held : Contents) (v : Verdict) (text : List ℕ) → Says c held v text → ComesTo v c held
says_comes c held v text says = record { fine = says.fine; saved = says.saved; text = text; outcome = says.outcome }

too_long : (c : Command) (held : Contents) (text : List ℕ) → SaysTooLong c held text → OfOne (IsLong held) (loads_of c)
too_long c held text says = long_of held (λ load. text ≡ refused_line load.name (codes "too long")) (loads_of c) says

module _ (c : Command) (held : Contents) where
  two_comes : (v w : Verdict) → is_decided c ≡ true → ComesTo v c held → ComesTo w c held → v ≡ w
  two_comes v w decided one other = one_verdict c held v w one.saved other.saved one.text other.text decided one.outcome other.outcome

  comes_not_long : (v : Verdict) → ComesTo v c held → OfOne (IsLong held) (loads_of c) → ⊥
  comes_not_long v comes long = none_long held (loads_of c) comes.fine long

  comes_not_missing : (v : Verdict) → ComesTo v c held → SomeMissing c held → ⊥
  comes_not_missing v comes missing = none_missing held (loads_of c) comes.fine missing

  not_refusable : (v : Verdict) → v ≢ verdict.Refused → ComesTo v c held → IsRefusable c held → ⊥
  not_refusable v differs comes (inl long) = comes_not_long v comes long
  not_refusable v differs comes (inr refused) = differs (refused_or_not c held v comes.saved refused.saved comes.text refused.text comes.outcome refused.outcome)

  refusable : (text : List ℕ) → SaysTooLong c held text ⊎ Says c held verdict.Refused text → IsRefusable c held
  refusable text (inl long) = inl (too_long c held text long)
  refusable text (inr says) = inr (says_comes c held verdict.Refused text says)

-- ---- what failed

says_load_rose : (old new : FilesSeen) (text : Load → Type 0) (loads : List Load) → OfOne (λ load. LoadFailed old new load × text load) loads → OfOne (LoadRose old new) loads
says_load_rose old new text [] rose = rose
says_load_rose old new text (load ∷ loads) (inl here) = inl here.0.rose
says_load_rose old new text (load ∷ loads) (inr later) = inr (says_load_rose old new text loads later)

says_save_rose : (old new : FilesSeen) (text : List ℕ → Type 0) (names : List (List ℕ)) → OfOne (λ name. SaveFailed old new name × text name) names → OfOne (SaveRose old new) names
says_save_rose old new text [] rose = rose
says_save_rose old new text (name ∷ names) (inl here) = inl here.0.rose
says_save_rose old new text (name ∷ names) (inr later) = inr (says_save_rose old new text names later)

load_rose : (c : Command) (old new : FilesSeen) (text : List ℕ) → SaysLoadFault c old new text → SomeLoadRose c old new
load_rose c old new text says = says_load_rose old new (λ load. text ≡ load_fault_line load.name) (loads_of c) says

save_rose : (c : Command) (old new : FilesSeen) (text : List ℕ) → SaysSaveFault c old new text → SomeSaveRose c old new
save_rose c old new text says = says_save_rose old new (λ name. text ≡ save_fault_line name) (saves_of c) says

quiet : (old new : FilesSeen) (held : Contents) (c : Command) → old.contents ≡ Some held → NoneRose old.load_count new.load_count → SomeLoadRose c old new → ⊥
quiet old new held c told none rose = go (loads_of c) rose
  where
    risen : (load : Load) → LoadRose old new load → ⊥
    risen load rose = let same = none load.name in let strict : old.load_count load.name < new.load_count load.name = subst (λ (o : Option Contents). RoseOf o (old.load_count load.name) (new.load_count load.name)) told rose in omega (arith, strict, same)

    go : (loads : List Load) → OfOne (LoadRose old new) loads → ⊥
    go [] rose = rose
    go (load ∷ loads) (inl here) = risen load here
    go (load ∷ loads) (inr later) = go loads later

-- ---- each status, from what was decided

module _ (line : Option Command) (old new : FilesSeen) (out put : SinkSeen) (answered : Status) (run : Ran line old new out put answered) where
  acts_at : (s : Status) → s ≢ status.Fault → s ≢ status.Memory → answered ≡ s → Acts line old new s run.text
  acts_at s fault memory e = subst (λ (q : Status). Acts line old new q run.text)
      (sym (same_status run.decided answered (Rose out.put_count put.put_count) run.ends.same (λ f. fault (sym e ∙ f)) (λ m. memory (sym e ∙ m))) ∙ e) run.acts

  pub usage : answered ≡ status.Usage → line ≡ None
  usage e = go line (acts_at status.Usage (λ f. cc) (λ m. cc) e)
    where
      go : (l : Option Command) → Acts l old new status.Usage run.text → l ≡ None
      go None acts = refl
      go (Some c) acts = absurd acts

  pub usage_only : line ≡ None → OrMemory answered status.Usage
  usage_only e = go (subst (λ (l : Option Command). Acts l old new run.decided run.text) e run.acts) run.ends.same
    where
      go : Acts None old new run.decided run.text → (answered ≡ run.decided) ⊎ (answered ≡ status.Memory) ⊎ ((answered ≡ status.Fault) × (run.decided ≡ status.Done) × Rose out.put_count put.put_count) → OrMemory answered status.Usage
      go acts (inr (inl memory)) = inr memory
      go (same, inl is) (inl e) = inl (e ∙ is.0)
      go (same, inr is) (inl e) = inr (e ∙ is.0)
      go (same, inl is) (inr (inr failed)) = let usage = is.0 in let done = failed.1 in absurd cc
      go (same, inr is) (inr (inr failed)) = let memory = is.0 in let done = failed.1 in absurd cc

  pub fault : answered ≡ status.Fault → IsSomeAnd line (λ c. SomeLoadRose c old new ⊎ SomeSaveRose c old new ⊎ Rose out.put_count put.put_count)
  fault e = go line run.acts run.ends.same
    where
      risen : (c : Command) → Performs c old new status.Fault run.text → SomeLoadRose c old new ⊎ SomeSaveRose c old new ⊎ Rose out.put_count put.put_count
      risen c (inl is) = inl (load_rose c old new run.text is.1)
      risen c (inr is) = inr (inl (save_rose c old new run.text is.0))

      go : (l : Option Command) → Acts l old new run.decided run.text → (answered ≡ run.decided) ⊎ (answered ≡ status.Memory) ⊎ ((answered ≡ status.Fault) × (run.decided ≡ status.Done) × Rose out.put_count put.put_count) → IsSomeAnd l (λ c. SomeLoadRose c old new ⊎ SomeSaveRose c old new ⊎ Rose out.put_count put.put_count)
      go None (same, inl is) (inl d) = let usage = is.0 in absurd cc
      go None (same, inr is) (inl d) = let memory = is.0 in absurd cc
      go None acts (inr (inl memory)) = absurd cc
      go None (same, inl is) (inr (inr failed)) = let usage = is.0 in let done = failed.1 in absurd cc
      go None (same, inr is) (inr (inr failed)) = let memory = is.0 in let done = failed.1 in absurd cc
      go (Some c) acts (inl d) = risen c (subst (λ (s : Status). Performs c old new s run.text) (sym d ∙ e) acts)
      go (Some c) acts (inr (inl memory)) = absurd cc
      go (Some c) acts (inr (inr failed)) = inr (inr failed.2)

  pub untouched : (answered ≡ status.Usage) ⊎ (answered ≡ status.Refused) ⊎ (answered ≡ status.NotAccepted) → Untouched old new
  untouched (inl e) = go line (acts_at status.Usage (λ f. cc) (λ m. cc) e)
    where
      go : (l : Option Command) → Acts l old new status.Usage run.text → Untouched old new
      go None acts = acts.0
      go (Some c) acts = absurd acts
  untouched (inr (inl e)) = go line (acts_at status.Refused (λ f. cc) (λ m. cc) e)
    where
      go : (l : Option Command) → Acts l old new status.Refused run.text → Untouched old new
      go None acts = acts.0
      go (Some c) acts = acts.0
  untouched (inr (inr e)) = go line (acts_at status.NotAccepted (λ f. cc) (λ m. cc) e)
    where
      go : (l : Option Command) → Acts l old new status.NotAccepted run.text → Untouched old new
      go None acts = acts.0
      go (Some c) acts = acts.0

  -- P of the command and of what is held, from what goes with a status
  each_where : (l : Option Command) (s : Status) (P : Command → Contents → Type 0) → Acts l old new s run.text → ((c : Command) → Performs c old new s run.text → IfSome old.contents (λ held. P c held)) → Where l old P
  each_where None s P acts each = tt
  each_where (Some c) s P acts each = each c acts

  pub refused : answered ≡ status.Refused → Where line old IsRefusable
  refused e = each_where line status.Refused IsRefusable (acts_at status.Refused (λ f. cc) (λ m. cc) e) (λ c acts. told c old.contents acts.1)
    where
      told : (c : Command) (o : Option Contents) → IfSome o (λ held. SaysTooLong c held run.text ⊎ Says c held verdict.Refused run.text) → IfSome o (λ held. IsRefusable c held)
      told c None says = tt
      told c (Some held) says = refusable c held run.text says

  pub not_accepted : answered ≡ status.NotAccepted → Where line old Disagrees
  not_accepted e = each_where line status.NotAccepted Disagrees (acts_at status.NotAccepted (λ f. cc) (λ m. cc) e) (λ c acts. told c old.contents acts.1)
    where
      told : (c : Command) (o : Option Contents) → IfSome o (λ held. Says c held verdict.NotAccepted run.text) → IfSome o (λ held. Disagrees c held)
      told c None says = tt
      told c (Some held) says = says_comes c held verdict.NotAccepted run.text says

  pub done : answered ≡ status.Done → Where line old (λ c held. Completes c held new.contents)
  done e = each_where line status.Done (λ c held. Completes c held new.contents) (acts_at status.Done (λ f. cc) (λ m. cc) e) (λ c acts. told c old.contents acts)
    where
      told : (c : Command) (o : Option Contents) → IfSome o (λ held. IsDone c held new.contents run.text) → IfSome o (λ held. Completes c held new.contents)
      told c None is = tt
      told c (Some held) is = record { text = run.text; is_done = is }

-- ---- what must come

module _ (old new : FilesSeen) (text : List ℕ) (rose : Type 0) (answered : Status) (held : Contents) (c : Command) (told : old.contents ≡ Some held) where
  abbrev Same : Status → Type 0
  Same d = (answered ≡ d) ⊎ (answered ≡ status.Memory) ⊎ ((answered ≡ status.Fault) × (d ≡ status.Done) × rose)

  settle : (s : Status) → s ≢ status.Done → Same s → OrMemory answered s
  settle s differs (inl e) = inl e
  settle s differs (inr (inl m)) = inr m
  settle s differs (inr (inr put)) = absurd (differs put.1)

  to_memory : {A : Type 0} → Same status.Memory → A ⊎ (answered ≡ status.Memory)
  to_memory (inl e) = inr e
  to_memory (inr (inl m)) = inr m
  to_memory (inr (inr put)) = let f = put.1 in absurd cc

  over : (P : Contents → Type 0) → IfSome old.contents P → P held
  over P all = subst (λ (o : Option Contents). IfSome o P) told all

  is_done : Performs c old new status.Done text → Succeeds c held
  is_done is = done_comes c held new.contents text (over (λ h. IsDone c h new.contents text) is)

  is_not_accepted : Performs c old new status.NotAccepted text → Disagrees c held
  is_not_accepted is = says_comes c held verdict.NotAccepted text (over (λ h. Says c h verdict.NotAccepted text) is.1)

  is_refused : Performs c old new status.Refused text → SaysTooLong c held text ⊎ Says c held verdict.Refused text
  is_refused is = over (λ h. SaysTooLong c h text ⊎ Says c h verdict.Refused text) is.1

  is_broken : IfSome old.contents (λ h. SaysBroken c h old new text) → Succeeds c held
  is_broken is = let says = over (λ h. SaysBroken c h old new text) is in broken_comes c held old new says.broken

  pub must_refuse : (d : Status) → Performs c old new d text → Same d → ¬ (SomeLoadRose c old new) → IsRefusable c held → OrMemory answered status.Refused
  must_refuse status.Done is same none bad = absurd (not_refusable c held verdict.Done (λ e. cc) (is_done is) bad)
  must_refuse status.NotAccepted is same none bad = absurd (not_refusable c held verdict.NotAccepted (λ e. cc) (is_not_accepted is) bad)
  must_refuse status.Refused is same none bad = settle status.Refused (λ e. cc) same
  must_refuse status.Fault (inl is) same none bad = absurd (none (load_rose c old new text is.1))
  must_refuse status.Fault (inr is) same none bad = absurd (not_refusable c held verdict.Done (λ e. cc) (is_broken is.1) bad)
  must_refuse status.Usage is same none bad = absurd is
  must_refuse status.Memory is same none bad = to_memory same

  pub must_disagree : is_decided c ≡ true → (d : Status) → Performs c old new d text → Same d → ¬ (SomeLoadRose c old new) → Disagrees c held → OrMemory answered status.NotAccepted
  must_disagree decided status.Done is same none bad = absurd (let e = two_comes c held verdict.Done verdict.NotAccepted decided (is_done is) bad in cc)
  must_disagree decided status.NotAccepted is same none bad = settle status.NotAccepted (λ e. cc) same
  must_disagree decided status.Refused is same none bad = absurd (not_refusable c held verdict.NotAccepted (λ e. cc) bad (refusable c held text (is_refused is)))
  must_disagree decided status.Fault (inl is) same none bad = absurd (none (load_rose c old new text is.1))
  must_disagree decided status.Fault (inr is) same none bad = absurd (let e = two_comes c held verdict.Done verdict.NotAccepted decided (is_broken is.1) bad in cc)
  must_disagree decided status.Usage is same none bad = absurd is
  must_disagree decided status.Memory is same none bad = to_memory same

  pub must_succeed : is_decided c ≡ true → (d : Status) → Performs c old new d text → Same d → (answered ≡ status.Fault → d ≡ status.Fault → ⊥) → (rose → ⊥) → Succeeds c held → OrMemory answered status.Done
  must_succeed decided status.Done is (inl e) failed put good = inl e
  must_succeed decided status.Done is (inr (inl m)) failed put good = inr m
  must_succeed decided status.Done is (inr (inr risen)) failed put good = absurd (put risen.2)
  must_succeed decided status.NotAccepted is same failed put good = absurd (let e = two_comes c held verdict.Done verdict.NotAccepted decided good (is_not_accepted is) in cc)
  must_succeed decided status.Refused is same failed put good = absurd (not_refusable c held verdict.Done (λ e. cc) good (refusable c held text (is_refused is)))
  must_succeed decided status.Fault is (inl e) failed put good = absurd (failed e refl)
  must_succeed decided status.Fault is (inr (inl m)) failed put good = inr m
  must_succeed decided status.Fault is (inr (inr risen)) failed put good = absurd (put risen.2)
  must_succeed decided status.Usage is same failed put good = absurd is
  must_succeed decided status.Memory is same failed put good = to_memory same

  -- in every other case
  pub must_be_done : (d : Status) → Performs c old new d text → Same d → (d ≡ status.Fault → ⊥) → (rose → ⊥) → ¬ (IsRefusable c held) → ¬ (Disagrees c held) → OrMemory answered status.Done
  must_be_done status.Done is (inl e) failed put fine agrees = inl e
  must_be_done status.Done is (inr (inl m)) failed put fine agrees = inr m
  must_be_done status.Done is (inr (inr risen)) failed put fine agrees = absurd (put risen.2)
  must_be_done status.NotAccepted is same failed put fine agrees = absurd (agrees (is_not_accepted is))
  must_be_done status.Refused is same failed put fine agrees = absurd (fine (refusable c held text (is_refused is)))
  must_be_done status.Fault is same failed put fine agrees = absurd (failed refl)
  must_be_done status.Usage is same failed put fine agrees = absurd is
  must_be_done status.Memory is same failed put fine agrees = to_memory same

  pub must_miss : (d : Status) → Performs c old new d text → Same d → SomeMissing c held → OrMemory answered status.Fault
  must_miss status.Done is same missing = absurd (comes_not_missing c held verdict.Done (is_done is) missing)
  must_miss status.NotAccepted is same missing = absurd (comes_not_missing c held verdict.NotAccepted (is_not_accepted is) missing)
  must_miss status.Refused is same missing = go (is_refused is)
    where
      go : SaysTooLong c held text ⊎ Says c held verdict.Refused text → OrMemory answered status.Fault
      go (inl long) = absurd (missing_or_long held (λ load. text ≡ refused_line load.name (codes "too long")) (loads_of c) missing long)
      go (inr says) = absurd (comes_not_missing c held verdict.Refused (says_comes c held verdict.Refused text says) missing)
  must_miss status.Fault is same missing = settle status.Fault (λ e. cc) same
  must_miss status.Usage is same missing = absurd is
  must_miss status.Memory is same missing = to_memory same

module _ (line : Option Command) (old new : FilesSeen) (out put : SinkSeen) (answered : Status) (run : Ran line old new out put answered) where
  -- P holds of the command and of what is held, where both are told
  over_both : (P : Command → Contents → Type 0) → ((c : Command) (held : Contents) → line ≡ Some c → old.contents ≡ Some held → Performs c old new run.decided run.text → P c held) → Where line old P
  over_both P each = go line refl run.acts
    where
      go : (l : Option Command) → line ≡ l → Acts l old new run.decided run.text → Where l old P
      go None is acts = tt
      go (Some c) is acts = held_of old.contents refl
        where
          held_of : (o : Option Contents) → old.contents ≡ o → IfSome o (λ held. P c held)
          held_of None told = tt
          held_of (Some held) told = each c held is told acts

  pub refused_only : Where line old (λ c held. ¬ (SomeLoadRose c old new) → IsRefusable c held → OrMemory answered status.Refused)
  refused_only = over_both (λ c held. ¬ (SomeLoadRose c old new) → IsRefusable c held → OrMemory answered status.Refused)
      (λ c held is told acts. must_refuse old new run.text (Rose out.put_count put.put_count) answered held c told run.decided acts run.ends.same)

  pub not_accepted_only : Where line old (λ c held. is_decided c ≡ true → ¬ (SomeLoadRose c old new) → Disagrees c held → OrMemory answered status.NotAccepted)
  not_accepted_only = over_both (λ c held. is_decided c ≡ true → ¬ (SomeLoadRose c old new) → Disagrees c held → OrMemory answered status.NotAccepted)
      (λ c held is told acts decided. must_disagree old new run.text (Rose out.put_count put.put_count) answered held c told decided run.decided acts run.ends.same)

  no_fault : (c : Command) → ¬ (SomeLoadRose c old new) → ¬ (SomeSaveRose c old new) → Performs c old new run.decided run.text → run.decided ≡ status.Fault → ⊥
  no_fault c loads saves acts d = go (subst (λ (s : Status). Performs c old new s run.text) d acts)
    where
      go : Performs c old new status.Fault run.text → ⊥
      go (inl is) = loads (load_rose c old new run.text is.1)
      go (inr is) = saves (save_rose c old new run.text is.0)

  pub otherwise : Where line old (λ c held. ¬ (SomeLoadRose c old new) → ¬ (SomeSaveRose c old new) → ¬ (Rose out.put_count put.put_count) → ¬ (IsRefusable c held) → ¬ (Disagrees c held) → OrMemory answered status.Done)
  otherwise = over_both (λ c held. ¬ (SomeLoadRose c old new) → ¬ (SomeSaveRose c old new) → ¬ (Rose out.put_count put.put_count) → ¬ (IsRefusable c held) → ¬ (Disagrees c held) → OrMemory answered status.Done)
      (λ c held is told acts loads saves puts fine agrees. must_be_done old new run.text (Rose out.put_count put.put_count) answered held c told run.decided acts run.ends.same (no_fault c loads saves acts) puts fine agrees)

  pub complete : Where line old (λ c held. is_decided c ≡ true → ¬ (SomeLoadRose c old new) → ¬ (SomeSaveRose c old new) → ¬ (Rose out.put_count put.put_count) → Succeeds c held → OrMemory answered status.Done)
  complete = over_both (λ c held. is_decided c ≡ true → ¬ (SomeLoadRose c old new) → ¬ (SomeSaveRose c old new) → ¬ (Rose out.put_count put.put_count) → Succeeds c held → OrMemory answered status.Done)
      (λ c held is told acts decided loads saves puts good. must_succeed old new run.text (Rose out.put_count put.put_count) answered held c told decided run.decided acts run.ends.same (λ e d. no_fault c loads saves acts d) puts good)

  -- where a fault comes only of a file that is not there
  pub complete_steady : (answered ≡ status.Fault → Where line old SomeMissing) → Where line old (λ c held. is_decided c ≡ true → Succeeds c held → OrMemory answered status.Done)
  complete_steady missing = over_both (λ c held. is_decided c ≡ true → Succeeds c held → OrMemory answered status.Done)
      (λ c held is told acts decided good. settled c held is told decided acts good run.decided acts run.ends.same)
    where
      at_fault : (c : Command) (held : Contents) → line ≡ Some c → old.contents ≡ Some held → Succeeds c held → answered ≡ status.Fault → ⊥
      at_fault c held is told good e = comes_not_missing c held verdict.Done good
          (subst (λ (o : Option Contents). IfSome o (λ h. SomeMissing c h)) told (subst (λ (l : Option Command). Where l old SomeMissing) is (missing e)))

      settled : (c : Command) (held : Contents) → line ≡ Some c → old.contents ≡ Some held → is_decided c ≡ true → Performs c old new run.decided run.text → Succeeds c held → (d : Status) → Performs c old new d run.text → (answered ≡ d) ⊎ (answered ≡ status.Memory) ⊎ ((answered ≡ status.Fault) × (d ≡ status.Done) × Rose out.put_count put.put_count) → OrMemory answered status.Done
      settled c held is told decided acts good d at (inr (inl m)) = inr m
      settled c held is told decided acts good d at (inr (inr risen)) = absurd (at_fault c held is told good risen.0)
      settled c held is told decided acts good d at (inl e) = must_succeed old new run.text ⊥ answered held c told decided d at (inl e) (λ f same. at_fault c held is told good f) (λ never. never) good

  pub missing_only : Where line old (λ c held. SomeMissing c held → OrMemory answered status.Fault)
  missing_only = over_both (λ c held. SomeMissing c held → OrMemory answered status.Fault)
      (λ c held is told acts. must_miss old new run.text (Rose out.put_count put.put_count) answered held c told run.decided acts run.ends.same)

-- where a load failed, nothing was saved
pub load_failed : (line : Option Command) (old new : FilesSeen) → (IsTold old → Untouched old new ⊎ NoneRose old.load_count new.load_count) → IsTold old → IfSome line (λ c. SomeLoadRose c old new → Untouched old new)
load_failed None old new either told = tt
load_failed (Some c) old new either told = λ rose. go old.contents refl told rose (either told)
  where
    go : (o : Option Contents) → old.contents ≡ o → IsSome o → SomeLoadRose c old new → Untouched old new ⊎ NoneRose old.load_count new.load_count → Untouched old new
    go None is told rose one = absurd cc
    go (Some held) is told rose (inl same) = same
    go (Some held) is told rose (inr none) = absurd (quiet old new held c is none rose)
