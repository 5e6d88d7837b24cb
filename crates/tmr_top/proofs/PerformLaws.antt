-- How a command ends, from its work and its saves.
use Rattle.std.proofs.Common.{◌≡◌, ◌≢◌, ◌⊎◌, ℕ, List, [], ◌∷◌, ◌++◌, Option, Some, None, Ok, Err, inl, inr, refl, sym, ap, subst, ◌∙◌}
use Rattle.std.specs.Prelude.{IfSome, codes, Vec}
use Rattle.std.specs.declared.alloc.Global.{Global}
use Rattle.std.specs.Borrow.{Bor}
use Rattle.tmr_outside.specs.Contents.{Contents}
use Rattle.tmr_outside.specs.Counts.{RoseOf, NoneFell, NoneRose}
use Rattle.tmr_outside.specs.Seen.{FilesSeen, IsTold}
use Rattle.tmr_top.specs.declared.decision.Verdict.{Verdict}
use Rattle.tmr_top.specs.declared.decision.Verdict.TheVariants as verdict
use Rattle.tmr_top.specs.declared.decision.Work.{Work}
use Rattle.tmr_top.specs.declared.loads.Stop.{Stop}
use Rattle.tmr_top.specs.declared.loads.Stop.TheVariants as stop
use Rattle.tmr_top.specs.declared.saves.SaveStop.{SaveStop}
use Rattle.tmr_top.specs.declared.saves.SaveStop.TheVariants as save_stop
use Rattle.tmr_top.specs.declared.status.Status.{Status}
use Rattle.tmr_top.specs.declared.status.Status.TheVariants as status
use Rattle.tmr_words.specs.Line.{Command, Pair, Validate}
use Rattle.tmr_top.specs.Loads.{Load, loads_of, saves_of}
use Rattle.tmr_top.specs.Files.{OfOne, OfEach, OfFirst, IsLong, IsFine}
use Rattle.tmr_top.specs.Changes.{LoadFailed, SaveFailed, HeldElsewhere, ChangesOnly, NoneFailed}
use Rattle.tmr_top.specs.Pairs.{Masked}
use Rattle.tmr_top.specs.Outcomes.{Outcome}
use Rattle.tmr_top.specs.Private.Opened.{IsStop, IsSteadyStop, IsStopped}
use Rattle.tmr_top.specs.Causes.{SomeMissing}
use Rattle.tmr_top.specs.Saves.{with_texts, IsDone, IsBroken}
use Rattle.tmr_top.specs.Private.Saved.{after_saves, Saves, StopsAt, IsSaveStop}
use Rattle.tmr_top.specs.declared.decision.Save.{Save}
use Rattle.tmr_top.specs.Private.Works.{save_names, save_texts, SavesFor, Comes, Leaves}
use Rattle.tmr_top.specs.Private.Rooms.{Concludes}
use Rattle.tmr_texts.specs.Texts.{load_fault_line, save_fault_line, refused_line}
use Rattle.tmr_top.specs.Runs.{Untouched, Says, SaysTooLong, SaysSaveFault, SaysBroken, Performs}
use Rattle.tmr_top.proofs.ChangeLaws.{rose_since, load_failed_since, save_failed_since, told_as_before, changes_none}

-- ---- saves

-- the work of a command that is done, as an outcome
done_outcome : (c : Command) (held : Contents) (w : Work) → w.verdict ≡ verdict.Done → Comes c held w → Outcome c held verdict.Done (save_texts w.saves.items) w.text.items
done_outcome c held w done comes = subst (λ (v : Verdict). Outcome c held v (save_texts w.saves.items) w.text.items) done comes.is_work.outcome

module _ (c : Command) (old new : FilesSeen) (w : Work) (names : List (List ℕ)) (is : names ≡ saves_of c) (done : w.verdict ≡ verdict.Done) (comes : IfSome old.contents (λ held. Comes c held w)) where
  pub all_saved : Saves names (save_texts w.saves.items) old new → IfSome old.contents (λ held. IsDone c held new.contents w.text.items)
  all_saved saves = go old.contents comes saves.holds
    where
      go : (o : Option Contents) → IfSome o (λ held. Comes c held w) → new.contents ≡ after_saves o names (save_texts w.saves.items) → IfSome o (λ held. IsDone c held new.contents w.text.items)
      go None comes holds = tt
      go (Some held) comes holds = record {
        fine = comes.fine;
        saved = save_texts w.saves.items;
        outcome = done_outcome c held w done comes;
        whole = holds ∙ ap (λ (ns : List (List ℕ)). Some (with_texts held ns (save_texts w.saves.items))) is;
      }

  pub broken : (why : SaveStop) → IsSaveStop names (save_texts w.saves.items) old new why → IfSome old.contents (λ held. IsBroken c held old new)
  broken why at = go old.contents refl comes
    where
      holds : (held : Contents) (why : SaveStop) → old.contents ≡ Some held → StopsAt old new at.first (save_texts w.saves.items) at.next why → (new.contents ≡ Some (with_texts held at.first (save_texts w.saves.items))) ⊎ (SaveFailed old new at.next × HeldElsewhere (at.next ∷ []) (Some (with_texts held at.first (save_texts w.saves.items))) new.contents)
      holds held (save_stop.Failed name) told stops = inr (stops.1, subst (λ (o : Option Contents). HeldElsewhere (at.next ∷ []) (after_saves o at.first (save_texts w.saves.items)) new.contents) told stops.2)
      holds held save_stop.Memory told stops = inl (stops ∙ ap (λ (o : Option Contents). after_saves o at.first (save_texts w.saves.items)) told)

      go : (o : Option Contents) → old.contents ≡ o → IfSome o (λ held. Comes c held w) → IfSome o (λ held. IsBroken c held old new)
      go None told comes = tt
      go (Some held) told comes = record {
        fine = comes.fine;
        saved = save_texts w.saves.items;
        text = w.text.items;
        outcome = done_outcome c held w done comes;
        first = at.first;
        next = at.next;
        later = at.later;
        names = sym is ∙ at.split;
        holds = holds held why told at.stops;
      }

-- the save of a name failed, and it is named
pub says_broken : (c : Command) (old new : FilesSeen) (w : Work) (names : List (List ℕ)) (name : Bor (List ℕ)) (text : List ℕ) → names ≡ saves_of c → w.verdict ≡ verdict.Done → IfSome old.contents (λ held. Comes c held w) → IsSaveStop names (save_texts w.saves.items) old new (save_stop.Failed name) → text ≡ save_fault_line name.now → IfSome old.contents (λ held. SaysBroken c held old new text)
says_broken c old new w names name text is done comes at says = go old.contents refl comes
  where
    go : (o : Option Contents) → old.contents ≡ o → IfSome o (λ held. Comes c held w) → IfSome o (λ held. SaysBroken c held old new text)
    go None told comes = tt
    go (Some held) told comes = record {
      broken = record {
        fine = comes.fine;
        saved = save_texts w.saves.items;
        text = w.text.items;
        outcome = done_outcome c held w done comes;
        first = at.first;
        next = at.next;
        later = at.later;
        names = sym is ∙ at.split;
        holds = inr (at.stops.1, subst (λ (o : Option Contents). HeldElsewhere (at.next ∷ []) (after_saves o at.first (save_texts w.saves.items)) new.contents) told at.stops.2);
      };
      failed = at.stops.1;
      says = says ∙ ap save_fault_line at.stops.0;
    }

save_behind : (P : List ℕ → Type 0) (first : List (List ℕ)) (x : List ℕ) (later : List (List ℕ)) → P x → OfOne P (first ++ x ∷ later)
save_behind P [] x later here = inl here
save_behind P (y ∷ first) x later here = inr (save_behind P first x later here)

-- the save of a name failed
pub says_save_fault : (c : Command) (old new : FilesSeen) (names texts : List (List ℕ)) (name : Bor (List ℕ)) (text : List ℕ) → names ≡ saves_of c → IsSaveStop names texts old new (save_stop.Failed name) → text ≡ save_fault_line name.now → SaysSaveFault c old new text
says_save_fault c old new names texts name text is at says =
    subst (λ (ns : List (List ℕ)). OfOne (λ n. SaveFailed old new n × (text ≡ save_fault_line n)) ns) (sym at.split ∙ is)
    (save_behind (λ n. SaveFailed old new n × (text ≡ save_fault_line n)) at.first at.next at.later (at.stops.1, says ∙ ap save_fault_line at.stops.0))

-- ---- verdicts

says_verdict : (c : Command) (w : Work) (v : Verdict) (o : Option Contents) → w.verdict ≡ v → IfSome o (λ held. Comes c held w) → IfSome o (λ held. Says c held v w.text.items)
says_verdict c w v None is comes = tt
says_verdict c w v (Some held) is comes = record {
  fine = comes.fine;
  saved = save_texts w.saves.items;
  outcome = subst (λ (q : Verdict). Outcome c held q (save_texts w.saves.items) w.text.items) is comes.is_work.outcome;
}

pub not_accepted : (c : Command) (seen : FilesSeen) (w : Work) → w.verdict ≡ verdict.NotAccepted → IfSome seen.contents (λ held. Comes c held w) → Performs c seen seen status.NotAccepted w.text.items
not_accepted c seen w is comes = (refl, says_verdict c w verdict.NotAccepted seen.contents is comes)

pub refused : (c : Command) (seen : FilesSeen) (w : Work) → w.verdict ≡ verdict.Refused → IfSome seen.contents (λ held. Comes c held w) → Performs c seen seen status.Refused w.text.items
refused c seen w is comes = (refl, go seen.contents (says_verdict c w verdict.Refused seen.contents is comes))
  where
    go : (o : Option Contents) → IfSome o (λ held. Says c held verdict.Refused w.text.items) → IfSome o (λ held. SaysTooLong c held w.text.items ⊎ Says c held verdict.Refused w.text.items)
    go None says = tt
    go (Some held) says = inr says

-- where `validate` is done, the pair masks
pub work_masks : (c : Command) (w : Work) (p : Pair) (o : Option Contents) → c ≡ Validate p → w.verdict ≡ verdict.Done → IfSome o (λ held. Comes c held w) → IfSome o (λ held. Masked held p)
work_masks c w p None line done comes = tt
work_masks c w p (Some held) line done comes = comes.is_work.masks p line done

-- ---- how a work that is done ends

module _ (c : Command) (old new : FilesSeen) (was is : Type 0) (w : Work) (ss : List Save) (these : ss ≡ w.saves.items) (done : w.verdict ≡ verdict.Done) (names : SavesFor c w) (steady : was → is) (changes : ChangesOnly [] (save_names ss) old new) where
  named : save_names ss ≡ saves_of c
  named = ap save_names these ∙ names done

  changed : ChangesOnly [] (saves_of c) old new
  changed = subst (λ (ns : List (List ℕ)). ChangesOnly [] ns old new) named changes

  texts_are : save_texts ss ≡ save_texts w.saves.items
  texts_are = ap save_texts these

  pub done_concludes : {E : Type 0} → Saves (save_names ss) (save_texts ss) old new → Concludes {E = E} c (Ok w) old new was is (Ok (record { status = status.Done; text = w.text }))
  done_concludes saves = record {
    performs = λ comes. all_saved c old new w (save_names ss) named done comes (subst (λ (ts : List (List ℕ)). Saves (save_names ss) ts old new) texts_are saves);
    unfailed = λ told differs. saves.none told;
    changes = changed;
    steady_ok = λ s e. cc;
    steady = steady;
    told = λ e. refl;
    agrees = λ agrees e. cc;
    masks = λ p line comes e. work_masks c w p old.contents line done comes;
  }

  -- the save of a name failed
  pub failed_concludes : {E : Type 0} (why : SaveStop) (name : Bor (List ℕ)) (text : Vec ℕ Global) → why ≡ save_stop.Failed name → IsSaveStop (save_names ss) (save_texts ss) old new why → text.items ≡ save_fault_line name.now → (was → why ≡ save_stop.Memory) → Concludes {E = E} c (Ok w) old new was is (Ok (record { status = status.Fault; text = text }))
  failed_concludes why name text here stop says steady_stop = record {
    performs = λ comes. inr (
      says_save_fault c old new (save_names ss) (save_texts w.saves.items) name text.items named at says,
      says_broken c old new w (save_names ss) name text.items named done comes at says,
    );
    unfailed = λ told differs. absurd (differs refl);
    changes = changed;
    steady_ok = λ s. let e = steady_stop s in absurd cc;
    steady = steady;
    told = λ e. absurd cc;
    agrees = λ agrees e. cc;
    masks = λ p line comes e. absurd cc;
  }
    where
      at : IsSaveStop (save_names ss) (save_texts w.saves.items) old new (save_stop.Failed name)
      at = subst (λ (ts : List (List ℕ)). IsSaveStop (save_names ss) ts old new (save_stop.Failed name)) texts_are (subst (λ (s : SaveStop). IsSaveStop (save_names ss) (save_texts ss) old new s) here stop)

  -- there was no memory for a save, or to name the one that failed
  pub wants_concludes : {E : Type 0} (why : SaveStop) (e : E) → IsSaveStop (save_names ss) (save_texts ss) old new why → Concludes {E = E} c (Ok w) old new was is (Err e)
  wants_concludes why e stop = record {
    performs = λ comes. inr (broken c old new w (save_names ss) named done comes why (subst (λ (ts : List (List ℕ)). IsSaveStop (save_names ss) ts old new why) texts_are stop));
    unfailed = tt;
    changes = changed;
    steady_ok = λ s. tt;
    steady = steady;
    told = tt;
    agrees = λ agrees. tt;
    masks = λ p line comes. tt;
  }

-- ---- how a work ends that is not done

pub denied_concludes : {E : Type 0} (c : Command) (seen : FilesSeen) (was : Type 0) (w : Work) → w.verdict ≡ verdict.NotAccepted → Concludes {E = E} c (Ok w) seen seen was was (Ok (record { status = status.NotAccepted; text = w.text }))
denied_concludes c seen was w is = record {
  performs = λ comes. not_accepted c seen w is comes;
  unfailed = λ told differs name. refl;
  changes = changes_none [] (saves_of c) seen;
  steady_ok = λ s e. cc;
  steady = λ s. s;
  told = λ e. absurd cc;
  agrees = λ agrees e. agrees is;
  masks = λ p line comes e. absurd cc;
}

pub refused_concludes : {E : Type 0} (c : Command) (seen : FilesSeen) (was : Type 0) (w : Work) → w.verdict ≡ verdict.Refused → Concludes {E = E} c (Ok w) seen seen was was (Ok (record { status = status.Refused; text = w.text }))
refused_concludes c seen was w is = record {
  performs = λ comes. refused c seen w is comes;
  unfailed = λ told differs name. refl;
  changes = changes_none [] (saves_of c) seen;
  steady_ok = λ s e. cc;
  steady = λ s. s;
  told = λ e. absurd cc;
  agrees = λ agrees e. cc;
  masks = λ p line comes e. absurd cc;
}

pub nothing_concludes : {E : Type 0} (c : Command) (seen : FilesSeen) (was : Type 0) (d e : E) → Concludes {E = E} c (Err d) seen seen was was (Err e)
nothing_concludes c seen was d e = record {
  performs = λ comes. inl refl;
  unfailed = tt;
  changes = changes_none [] (saves_of c) seen;
  steady_ok = λ s. tt;
  steady = λ s. s;
  told = tt;
  agrees = λ agrees. tt;
  masks = λ p line comes. tt;
}

pub ruleset conclusions = (done_concludes, failed_concludes, wants_concludes, denied_concludes, refused_concludes, nothing_concludes)

-- ---- loads that came to no end

say_fault : (old new : FilesSeen) (name text : List ℕ) → text ≡ load_fault_line name → (ls : List Load) → OfOne (λ l. LoadFailed old new l × (name ≡ l.name)) ls → OfOne (λ l. LoadFailed old new l × (text ≡ load_fault_line l.name)) ls
say_fault old new name text says [] rose = rose
say_fault old new name text says (l ∷ ls) (inl here) = inl (here.0, says ∙ ap load_fault_line here.1)
say_fault old new name text says (l ∷ ls) (inr later) = inr (say_fault old new name text says ls later)

say_long : (held : Contents) (name text : List ℕ) → text ≡ refused_line name (codes "too long") → (ls : List Load) → OfFirst held (λ l. IsLong held l × (name ≡ l.name)) ls → OfFirst held (λ l. IsLong held l × (text ≡ refused_line l.name (codes "too long"))) ls
say_long held name text says [] first = first
say_long held name text says (l ∷ ls) (inl here) = inl (here.0, says ∙ ap (λ (t : List ℕ). refused_line t (codes "too long")) here.1)
say_long held name text says (l ∷ ls) (inr later) = inr (later.0, say_long held name text says ls later.1)

module _ (c : Command) (R : List ℕ → Contents → Type 0) (unread : (line : List ℕ) (held : Contents) → R line held → Outcome c held verdict.Refused [] line) (old new : FilesSeen) (s : Status) (text : List ℕ) where
  pub stop_performs : (why : Stop) → Untouched old new → IsStop (loads_of c) R old new why → IsStopped why s text → Performs c old new s text
  stop_performs (stop.Failed name) same is says = subst (λ (q : Status). Performs c old new q text) (sym says.0) (inl (same, say_fault old new name.now text says.1 (loads_of c) is))
  stop_performs (stop.TooLong name) same is says = subst (λ (q : Status). Performs c old new q text) (sym says.0) (same, go old.contents is.0)
    where
      go : (o : Option Contents) → IfSome o (λ held. OfFirst held (λ l. IsLong held l × (name.now ≡ l.name)) (loads_of c)) → IfSome o (λ held. SaysTooLong c held text ⊎ Says c held verdict.Refused text)
      go None is = tt
      go (Some held) is = inl (say_long held name.now text says.1 (loads_of c) is)
  stop_performs (stop.Refused line) same is says = subst (λ (q : Status). Performs c old new q text) (sym says.0) (same, go old.contents is.holds)
    where
      go : (o : Option Contents) → IfSome o (λ held. OfEach (IsFine held) (loads_of c) × R line.items held) → IfSome o (λ held. SaysTooLong c held text ⊎ Says c held verdict.Refused text)
      go None is = tt
      go (Some held) is = inr (record { fine = is.0; saved = []; outcome = subst (λ (t : List ℕ). Outcome c held verdict.Refused [] t) (sym says.1) (unread line.items held is.1) })
  stop_performs stop.Memory same is says = absurd says

  pub stop_quiet : (why : Stop) → IsStop (loads_of c) R old new why → IsStopped why s text → (IsTold old → NoneRose old.save_count new.save_count) → IsTold old → s ≢ status.Fault → NoneFailed old new
  stop_quiet (stop.Failed name) is says saves told differs = absurd (differs says.0)
  stop_quiet (stop.TooLong name) is says saves told differs = record { loads = is.1 told; saves = saves told }
  stop_quiet (stop.Refused line) is says saves told differs = record { loads = is.none told; saves = saves told }
  stop_quiet stop.Memory is says saves told differs = absurd says

  pub stop_missing : (why : Stop) → IsSteadyStop (loads_of c) old.contents why → IsStopped why s text → s ≡ status.Fault → IfSome old.contents (SomeMissing c)
  stop_missing (stop.Failed name) is says fault = go old.contents is
    where
      go : (o : Option Contents) → IfSome o (λ held. SomeMissing c held) → IfSome o (SomeMissing c)
      go None missing = tt
      go (Some held) missing = missing
  stop_missing (stop.TooLong name) is says fault = let refused = says.0 in absurd cc
  stop_missing (stop.Refused line) is says fault = let refused = says.0 in absurd cc
  stop_missing stop.Memory is says fault = absurd says

pub stop_not_done : (s : Status) (text : List ℕ) (why : Stop) → IsStopped why s text → s ≡ status.Done → ⊥
stop_not_done s text (stop.Failed name) says done = let fault = says.0 in cc
stop_not_done s text (stop.TooLong name) says done = let refused = says.0 in cc
stop_not_done s text (stop.Refused line) says done = let refused = says.0 in cc
stop_not_done s text stop.Memory says done = says

pub stop_agrees : (s : Status) (text : List ℕ) (why : Stop) → IsStopped why s text → s ≢ status.NotAccepted
stop_agrees s text (stop.Failed name) says other = let fault = says.0 in cc
stop_agrees s text (stop.TooLong name) says other = let refused = says.0 in cc
stop_agrees s text (stop.Refused line) says other = let refused = says.0 in cc
stop_agrees s text stop.Memory says other = says

-- ---- after all is loaded and read

-- the contents are as before
pub masked_since : (a b : FilesSeen) → b.contents ≡ a.contents → (p : Pair) → IfSome b.contents (λ held. Masked held p) → IfSome a.contents (λ held. Masked held p)
masked_since a b same p masked = subst (λ (o : Option Contents). IfSome o (λ held. Masked held p)) same masked

-- where nothing failed before
module _ (c : Command) (a b new : FilesSeen) (same : b.contents ≡ a.contents) (loads : NoneFell a.load_count b.load_count) (saves : NoneFell a.save_count b.save_count) (quiet : IsTold a → NoneFailed a b) where
  load_since : (l : Load) → LoadFailed b new l → LoadFailed a new l
  load_since l failed = load_failed_since a b new l same loads quiet failed

  save_since : (name : List ℕ) → SaveFailed b new name → SaveFailed a new name
  save_since name failed = save_failed_since a b new name (told_as_before a.contents b.contents same)
      (rose_since a.contents (a.save_count name) (b.save_count name) (new.save_count name) (saves name) (subst (λ (o : Option Contents). RoseOf o (b.save_count name) (new.save_count name)) same failed.rose))
      quiet failed

  load_fault_since : (text : List ℕ) (ls : List Load) → OfOne (λ l. LoadFailed b new l × (text ≡ load_fault_line l.name)) ls → OfOne (λ l. LoadFailed a new l × (text ≡ load_fault_line l.name)) ls
  load_fault_since text [] rose = rose
  load_fault_since text (l ∷ ls) (inl here) = inl (load_since l here.0, here.1)
  load_fault_since text (l ∷ ls) (inr later) = inr (load_fault_since text ls later)

  save_fault_since : (text : List ℕ) (names : List (List ℕ)) → OfOne (λ n. SaveFailed b new n × (text ≡ save_fault_line n)) names → OfOne (λ n. SaveFailed a new n × (text ≡ save_fault_line n)) names
  save_fault_since text [] rose = rose
  save_fault_since text (n ∷ names) (inl here) = inl (save_since n here.0, here.1)
  save_fault_since text (n ∷ names) (inr later) = inr (save_fault_since text names later)

  either : {P Q : Type 0} (name : List ℕ) → P ⊎ (SaveFailed b new name × Q) → P ⊎ (SaveFailed a new name × Q)
  either name (inl held) = inl held
  either name (inr failed) = inr (save_since name failed.0, failed.1)

  abbrev one_since : (held : Contents) → IsBroken c held b new → IsBroken c held a new
  one_since held is = record {
    fine = is.fine;
    saved = is.saved;
    text = is.text;
    outcome = is.outcome;
    first = is.first;
    next = is.next;
    later = is.later;
    names = is.names;
    holds = either is.next is.holds;
  }

  broken_since : IfSome b.contents (λ held. IsBroken c held b new) → IfSome a.contents (λ held. IsBroken c held a new)
  broken_since is = go a.contents (subst (λ (o : Option Contents). IfSome o (λ held. IsBroken c held b new)) same is)
    where
      go : (o : Option Contents) → IfSome o (λ held. IsBroken c held b new) → IfSome o (λ held. IsBroken c held a new)
      go None is = tt
      go (Some held) is = one_since held is

  says_broken_since : (text : List ℕ) → IfSome b.contents (λ held. SaysBroken c held b new text) → IfSome a.contents (λ held. SaysBroken c held a new text)
  says_broken_since text is = go a.contents (subst (λ (o : Option Contents). IfSome o (λ held. SaysBroken c held b new text)) same is)
    where
      go : (o : Option Contents) → IfSome o (λ held. SaysBroken c held b new text) → IfSome o (λ held. SaysBroken c held a new text)
      go None is = tt
      go (Some held) is = record { broken = one_since held is.broken; failed = save_since is.broken.next is.failed; says = is.says }

  pub performs_since : (s : Status) (text : List ℕ) → Performs c b new s text → Performs c a new s text
  performs_since status.Done text is = subst (λ (o : Option Contents). IfSome o (λ held. IsDone c held new.contents text)) same is
  performs_since status.NotAccepted text is = (is.0 ∙ same, subst (λ (o : Option Contents). IfSome o (λ held. Says c held verdict.NotAccepted text)) same is.1)
  performs_since status.Refused text is = (is.0 ∙ same, subst (λ (o : Option Contents). IfSome o (λ held. SaysTooLong c held text ⊎ Says c held verdict.Refused text)) same is.1)
  performs_since status.Fault text (inl is) = inl (is.0 ∙ same, load_fault_since text (loads_of c) is.1)
  performs_since status.Fault text (inr is) = inr (save_fault_since text (saves_of c) is.0, says_broken_since text is.1)
  performs_since status.Usage text is = is
  performs_since status.Memory text (says, inl is) = (says, inl (is ∙ same))
  performs_since status.Memory text (says, inr is) = (says, inr (broken_since is))

  pub leaves_since : Leaves c b new → Leaves c a new
  leaves_since (inl is) = inl (is ∙ same)
  leaves_since (inr is) = inr (broken_since is)
