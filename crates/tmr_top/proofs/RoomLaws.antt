-- A room, from how its files are opened, its work, and how it concludes.
use Rattle.std.proofs.Common.{◌≡◌, ◌≢◌, ℕ, true, List, [], map, Option, Some, None, Result, Ok, Err, inl, inr, refl, sym, subst, ◌∙◌}
use Rattle.std.specs.Prelude.{IfOk, IsOkAnd, IfSome, Vec}
use Rattle.std.specs.declared.alloc.Global.{Global}
use Rattle.tmr_outside.specs.Contents.{Contents}
use Rattle.tmr_outside.specs.Counts.{NoneRose}
use Rattle.tmr_outside.specs.Seen.{FilesSeen, IsTold}
use Rattle.tmr_words.specs.Line.{Command, Pair, Validate, TryOut}
use Rattle.tmr_words.specs.Trials.{Trial}
use Rattle.tmr_top.specs.declared.decision.Decision.{Decision}
use Rattle.tmr_top.specs.declared.decision.Work.{Work}
use Rattle.tmr_top.specs.declared.decision.Verdict.{Verdict}
use Rattle.tmr_top.specs.declared.decision.Verdict.TheVariants as verdict
use Rattle.tmr_top.specs.declared.loads.Stop.{Stop}
use Rattle.tmr_top.specs.declared.status.Status.TheVariants as status
use Rattle.tmr_top.specs.ByWords.{compares}
use Rattle.tmr_top.specs.Causes.{SomeMissing}
use Rattle.tmr_top.specs.Changes.{ChangesOnly, NoneFailed}
use Rattle.tmr_top.specs.Files.{OfEach, IsFine}
use Rattle.tmr_top.specs.Loads.{Load, load_name, loads_of, saves_of}
use Rattle.tmr_top.specs.Outcomes.{Outcome}
use Rattle.tmr_top.specs.Pairs.{Masked}
use Rattle.tmr_top.specs.Runs.{Performs}
use Rattle.tmr_top.specs.Tried.{IsTried}
use Rattle.tmr_top.specs.Private.Opened.{IsOpen, IsStopped, Opens}
use Rattle.tmr_top.specs.Private.Rooms.{Concludes, Performed}
use Rattle.tmr_top.specs.Private.Works.{save_texts, IsDoneWith, IsDeniedWith, SavesFor, Agrees, IsWork, IsWorkOver, Comes, Leaves}
use Rattle.tmr_top.proofs.ChangeLaws.{none_since, told_as_before, changes_none, loads_and_saves, loads_alone, match_since}
use Rattle.tmr_top.proofs.PerformLaws.{stop_performs, stop_quiet, stop_missing, stop_not_done, stop_agrees, masked_since, performs_since, leaves_since}

-- what holds of an answer that is Ok goes over to what follows from it
pub if_ok : {A E : Type 0} (r : Result A E) (P Q : A → Type 0) → ((x : A) → P x → Q x) → IfOk r P → IfOk r Q
if_ok (Ok x) P Q f p = f x p
if_ok (Err e) P Q f p = p

both_ok : {A E : Type 0} (r : Result A E) (P Q R : A → Type 0) → ((x : A) → P x → Q x → R x) → IfOk r P → IfOk r Q → IfOk r R
both_ok (Ok x) P Q R f p q = f x p q
both_ok (Err e) P Q R f p q = p

-- ---- files that were not all loaded and read

pub stopped_room : {A E : Type 0} (c : Command) (H : A → Contents → Type 0) (R : List ℕ → Contents → Type 0) (old new : FilesSeen) (was is : Type 0) (why : Stop) (answer : Result Decision E) → ((line : List ℕ) (held : Contents) → R line held → Outcome c held verdict.Refused [] line) → Opens {A = A} (loads_of c) H R old new was is (Err why) → IfOk answer (λ d. IsStopped why d.status d.text.items) → Performed {E = E} c old new was is answer
stopped_room c H R old new was is why (Ok d) unread opens says = record {
  performs = stop_performs c R unread old new d.status d.text.items why opens.stays opens.stop says;
  unfailed = λ told differs. stop_quiet c R unread old new d.status d.text.items why opens.stop says (λ t name. opens.changes.saves_only t name tt) told differs;
  missing = λ s fault. stop_missing c R unread old new d.status d.text.items why (opens.steady_stop s) says fault;
  stays = opens.steady;
  agrees = λ e. stop_agrees d.status d.text.items why says;
  tried = λ t line done. absurd (stop_not_done d.status d.text.items why says done);
  load_failed = λ told. inl opens.stays;
  changes = loads_alone (map load_name (loads_of c)) (saves_of c) old new opens.changes;
  masks = λ p line done. absurd (stop_not_done d.status d.text.items why says done);
}
stopped_room c H R old new was is why (Err e) unread opens says = record {
  performs = inl opens.stays;
  unfailed = tt;
  missing = λ s. tt;
  stays = opens.steady;
  agrees = λ e. tt;
  tried = λ t line. tt;
  load_failed = λ told. inl opens.stays;
  changes = loads_alone (map load_name (loads_of c)) (saves_of c) old new opens.changes;
  masks = λ p line. tt;
}

-- ---- files that were

module _ {E : Type 0} (c : Command) (G : Contents → Type 0) (a b new : FilesSeen) (was is then : Type 0) (work : Result Work E) (answer : Result Decision E) (stays : b.contents ≡ a.contents) (changes : ChangesOnly (map load_name (loads_of c)) [] a b) (steady : was → is) (open_files : IsOpen (loads_of c) G a b) (owes : IfOk work (IsWorkOver c G)) (concludes : Concludes {E = E} c work b new is then answer) where
  quiet : IsTold a → NoneFailed a b
  quiet told = record { loads = open_files.none told; saves = λ name. changes.saves_only told name tt }

  told_later : IsTold a → IsTold b
  told_later told = told_as_before a.contents b.contents stays told

  comes : IfOk work (λ w. IfSome b.contents (λ held. Comes c held w))
  comes = if_ok work (IsWorkOver c G) (λ w. IfSome b.contents (λ held. Comes c held w)) (λ w o. subst (λ (s : Option Contents). IfSome s (λ held. Comes c held w)) (sym stays) (go w o a.contents open_files.holds)) owes
    where
      go : (w : Work) → IsWorkOver c G w → (o : Option Contents) → IfSome o (λ held. OfEach (IsFine held) (loads_of c) × G held) → IfSome o (λ held. Comes c held w)
      go w o None holds = tt
      go w o (Some held) holds = record { fine = holds.0; is_work = o.is_work held holds.1 }

  loads_none : IsTold a → NoneRose a.load_count new.load_count
  loads_none told = none_since a.load_count b.load_count new.load_count (open_files.none told) (λ name. concludes.changes.loads_only (told_later told) name tt)

  tried : (t : Trial) → c ≡ TryOut t → IfOk answer (λ d. d.status ≡ status.Done → IsTried t d.text.items)
  tried t line = if_ok answer (λ d. d.status ≡ status.Done → IsOkAnd work (λ w. d.text ≡ w.text)) (λ d. d.status ≡ status.Done → IsTried t d.text.items) (λ d told done. go d work owes (told done)) concludes.told
    where
      go : (d : Decision) (r : Result Work E) → IfOk r (IsWorkOver c G) → IsOkAnd r (λ w. d.text ≡ w.text) → IsTried t d.text.items
      go d (Ok w) o same = subst (λ (x : Vec ℕ Global). IsTried t x.items) (sym same) (o.tried t line)
      go d (Err e) o same = absurd same

  pub performed : Performed {E = E} c a new was then answer
  performed = record {
    performs = match_since answer (λ d. Performs c b new d.status d.text.items) (λ d. Performs c a new d.status d.text.items) (λ e. Leaves c b new) (λ e. Leaves c a new)
        (λ d p. performs_since c a b new stays changes.loads changes.saves quiet d.status d.text.items p)
        (λ e l. leaves_since c a b new stays changes.loads changes.saves quiet l)
        (concludes.performs comes);
    unfailed = if_ok answer (λ d. IsTold b → d.status ≢ status.Fault → NoneRose b.save_count new.save_count) (λ d. IsTold a → d.status ≢ status.Fault → NoneFailed a new)
        (λ d none told differs. record { loads = loads_none told; saves = none_since a.save_count b.save_count new.save_count (quiet told).saves (none (told_later told) differs) }) concludes.unfailed;
    missing = λ s. if_ok answer (λ d. d.status ≢ status.Fault) (λ d. d.status ≡ status.Fault → IfSome a.contents (SomeMissing c)) (λ d differs fault. absurd (differs fault)) (concludes.steady_ok (steady s));
    stays = λ s. concludes.steady (steady s);
    agrees = λ e. concludes.agrees (if_ok work (IsWorkOver c G) Agrees (λ w o. o.agrees e) owes);
    tried = tried;
    load_failed = λ told. inr (loads_none told);
    changes = loads_and_saves (map load_name (loads_of c)) (saves_of c) a b new changes concludes.changes;
    masks = λ p line. if_ok answer (λ d. d.status ≡ status.Done → IfSome b.contents (λ held. Masked held p)) (λ d. d.status ≡ status.Done → IfSome a.contents (λ held. Masked held p)) (λ d masked done. masked_since a b stays p (masked done)) (concludes.masks p line comes);
  }

-- the same, in the words of a room: x was opened, and then the work was concluded
pub opened_room : {A E : Type 0} (c : Command) (H : A → Contents → Type 0) (R : List ℕ → Contents → Type 0) (a b new : FilesSeen) (was is then : Type 0) (x : A) (work : Result Work E) (answer : Result Decision E) → Opens {A = A} (loads_of c) H R a b was is (Ok x) → IfOk work (IsWorkOver c (H x)) → ((k : Command) → IfOk work (SavesFor k) → Concludes {E = E} k work b new is then answer) → Performed {E = E} c a new was then answer
opened_room c H R a b new was is then x work answer opens owes concludes =
    performed c (H x) a b new was is then work answer opens.stays opens.changes opens.steady opens.ok owes
    (concludes c (if_ok work (IsWorkOver c (H x)) (SavesFor c) (λ w o. o.names) owes))

-- a room that opens nothing
pub unopened_room : {E : Type 0} (c : Command) (a new : FilesSeen) (was then : Type 0) (work : Result Work E) (answer : Result Decision E) → loads_of c ≡ [] → IfOk work (IsWorkOver c (λ held. Unit {0})) → ((k : Command) → IfOk work (SavesFor k) → Concludes {E = E} k work a new was then answer) → Performed {E = E} c a new was then answer
unopened_room c a new was then work answer none owes concludes =
    performed c (λ held. Unit {0}) a a new was was then work answer refl (changes_none (map load_name (loads_of c)) [] a) (λ s. s)
    (record { holds = go a.contents; none = λ told name. refl }) owes
    (concludes c (if_ok work (IsWorkOver c (λ held. Unit {0})) (SavesFor c) (λ w o. o.names) owes))
  where
    fine : (held : Contents) → OfEach (IsFine held) (loads_of c)
    fine held = subst (λ (ls : List Load). OfEach (IsFine held) ls) (sym none) tt

    go : (o : Option Contents) → IfSome o (λ held. OfEach (IsFine held) (loads_of c) × Unit {0})
    go None = tt
    go (Some held) = (fine held, tt)

-- ---- what a room owes of its work

-- a work as an outcome
work_of : (c : Command) (held : Contents) (w : Work) (v : Verdict) → w.verdict ≡ v → Outcome c held v (save_texts w.saves.items) w.text.items → ((p : Pair) → c ≡ Validate p → w.verdict ≡ verdict.Done → Masked held p) → IsWork c held w
work_of c held w v is outcome masks = record {
  outcome = subst (λ (q : Verdict). Outcome c held q (save_texts w.saves.items) w.text.items) (sym is) outcome;
  masks = masks;
}

-- a work that is done, of a command that is no trial
pub done_over : (c : Command) (G : Contents → Type 0) (names texts : List (List ℕ)) (text : List ℕ) (w : Work) → IsDoneWith names texts text w → names ≡ saves_of c → ((t : Trial) → c ≡ TryOut t → ⊥) → ((held : Contents) → G held → Outcome c held verdict.Done texts text) → ((held : Contents) → G held → (p : Pair) → c ≡ Validate p → Masked held p) → IsWorkOver c G w
done_over c G names texts text w is these other outcome masks = record {
  names = λ done. is.names_are ∙ these;
  agrees = λ e f. let d = is.done in cc;
  tried = λ t line. absurd (other t line);
  is_work = λ held g. work_of c held w verdict.Done is.done
      (subst (λ (ts : List (List ℕ)). Outcome c held verdict.Done ts w.text.items) (sym is.texts_are)
      (subst (λ (t : List ℕ). Outcome c held verdict.Done texts t) (sym is.says) (outcome held g)))
      (λ p line done. masks held g p line);
}

-- a work that is not accepted, of a command that compares files
pub denied_over : (c : Command) (G : Contents → Type 0) (text : List ℕ) (w : Work) → IsDeniedWith text w → compares c ≡ true → ((t : Trial) → c ≡ TryOut t → ⊥) → ((held : Contents) → G held → (saved : List (List ℕ)) → Outcome c held verdict.NotAccepted saved text) → IsWorkOver c G w
denied_over c G text w is compared other outcome = record {
  names = λ done. let d = is.denied in absurd cc;
  agrees = λ e. absurd cc;
  tried = λ t line. absurd (other t line);
  is_work = λ held g. work_of c held w verdict.NotAccepted is.denied
      (subst (λ (t : List ℕ). Outcome c held verdict.NotAccepted (save_texts w.saves.items) t) (sym is.says) (outcome held g (save_texts w.saves.items)))
      (λ p line done. let d = is.denied in absurd cc);
}

-- a trial that is done
pub tried_over : (t : Trial) (text : List ℕ) (w : Work) → IsDoneWith [] [] text w → IsTried t text → IsWorkOver (TryOut t) (λ held. Unit {0}) w
tried_over t text w is says = record {
  names = λ done. is.names_are;
  agrees = λ e f. let d = is.done in cc;
  tried = λ q line. let same : t ≡ q = cc in subst (λ (p : Trial). IsTried p w.text.items) same tried;
  is_work = λ held g. work_of (TryOut t) held w verdict.Done is.done (tried, is.texts_are) (λ p line done. absurd cc);
}
  where
    tried : IsTried t w.text.items
    tried = subst (λ (x : List ℕ). IsTried t x) (sym is.says) says
