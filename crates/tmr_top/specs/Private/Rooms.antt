-- What every room of a command owes.
use Rattle.std.specs.Prelude.{◌≡◌, ◌≢◌, ◌⊎◌, false, [], map, Result, IfOk, IsOkAnd, IfSome, MatchResult}
use Rattle.tmr_outside.specs.Counts.{NoneRose}
use Rattle.tmr_outside.specs.Seen.{FilesSeen, IsTold}
use Rattle.tmr_top.specs.declared.decision.Decision.{Decision}
use Rattle.tmr_top.specs.declared.decision.Work.{Work}
use Rattle.tmr_top.specs.declared.status.Status.TheVariants as status
use Rattle.tmr_words.specs.Line.{Command, Pair, Validate, TryOut}
use Rattle.tmr_words.specs.Trials.{Trial}
use Rattle.tmr_top.specs.Loads.{load_name, loads_of, saves_of}
use Rattle.tmr_top.specs.ByWords.{compares}
use Rattle.tmr_top.specs.Changes.{ChangesOnly, NoneFailed}
use Rattle.tmr_top.specs.Causes.{SomeMissing}
use Rattle.tmr_top.specs.Pairs.{Masked}
use Rattle.tmr_top.specs.Tried.{IsTried}
use Rattle.tmr_top.specs.Runs.{Performs, Untouched}
use Rattle.tmr_top.specs.Private.Works.{Agrees, Comes, Leaves}

-- How a command ends whose files are loaded and read, by its work: `old` was seen before the first save. `was` says that the files were
-- steady, and `is` that they are.
pub record Concludes {E : Type 0} (c : Command) (work : Result Work E) (old new : FilesSeen) (was is : Type 0) (answer : Result Decision E) : Type 0 where
  pub performs : IfOk work (λ w. IfSome old.contents (λ held. Comes c held w))
      → MatchResult answer (λ d. Performs c old new d.status d.text.items) (λ _. Leaves c old new)
  pub unfailed : IfOk answer (λ d. IsTold old → d.status ≢ status.Fault → NoneRose old.save_count new.save_count)
  pub changes : ChangesOnly [] (saves_of c) old new
  pub steady_ok : was → IfOk answer (λ d. d.status ≢ status.Fault)
  pub steady : was → is
  pub told : IfOk answer (λ d. d.status ≡ status.Done → IsOkAnd work (λ w. d.text ≡ w.text))
  pub agrees : IfOk work Agrees → IfOk answer (λ d. d.status ≢ status.NotAccepted)
  pub masks : (p : Pair) → c ≡ Validate p → IfOk work (λ w. IfSome old.contents (λ held. Comes c held w))
      → IfOk answer (λ d. d.status ≡ status.Done → IfSome old.contents (λ held. Masked held p))

-- What a command comes to before its text is put. This is the whole contract of a room.
pub record Performed {E : Type 0} (c : Command) (old new : FilesSeen) (was is : Type 0) (answer : Result Decision E) : Type 0 where
  pub performs : MatchResult answer (λ d. Performs c old new d.status d.text.items) (λ _. Leaves c old new)
  pub unfailed : IfOk answer (λ d. IsTold old → d.status ≢ status.Fault → NoneFailed old new)
  pub missing : was → IfOk answer (λ d. d.status ≡ status.Fault → IfSome old.contents (SomeMissing c))
  pub stays : was → is
  pub agrees : compares c ≡ false → IfOk answer (λ d. d.status ≢ status.NotAccepted)
  pub tried : (t : Trial) → c ≡ TryOut t → IfOk answer (λ d. d.status ≡ status.Done → IsTried t d.text.items)
  pub load_failed : IsTold old → Untouched old new ⊎ NoneRose old.load_count new.load_count
  pub changes : ChangesOnly (map load_name (loads_of c)) (saves_of c) old new
  pub masks : (p : Pair) → c ≡ Validate p
      → IfOk answer (λ d. d.status ≡ status.Done → IfSome old.contents (λ held. Masked held p))
