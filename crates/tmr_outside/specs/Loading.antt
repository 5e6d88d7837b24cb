-- What is seen when a file is loaded.
use Rattle.std.specs.Prelude.{◌≡◌, ◌≢◌, ◌⊎◌, ℕ, List, Result, Err, IfSome, IsSome, IsErrOf, OnOk, None}
use Rattle.std.specs.FinMap.{get}
use Rattle.tmr_outside.specs.Contents.{IsTooLong}
use Rattle.tmr_outside.specs.Counts.{RoseOf, NoneFell, NoneRose, OthersStay}
use Rattle.tmr_outside.specs.Seen.{FilesSeen, IsTold}
use Rattle.tmr_outside.specs.declared.faults.LoadFault.{LoadFault}
use Rattle.tmr_outside.specs.declared.faults.LoadFault.TheVariants as fault

-- A load of this name and limit gave this answer. `old` was seen before it and `new` is seen after it; `was` says that the object was
-- steady, and `is` that it is.
pub record IsLoad {A : Type 0} (name : List ℕ) (limit : ℕ) (answer : Result A LoadFault) (old new : FilesSeen) (was is : Type 0) : Type 0 where
  -- no file changes
  pub stays : new.contents ≡ old.contents
  -- what is refused as too long is too long
  pub too_long : IsErrOf answer fault.TooLong → IfSome old.contents (λ held. IsTooLong held name limit)
  -- what is given is not too long
  pub too_long_only : OnOk answer (IfSome old.contents (λ held. ¬ (IsTooLong held name limit)))
  -- a failure is counted at the name
  pub failed : IsErrOf answer fault.Failed → RoseOf old.contents (old.load_count name) (new.load_count name)
  -- a file that is not there is not loaded, and not too long
  pub missing : IfSome old.contents (λ held. get held name ≡ None → IsErrOf answer fault.Failed ⊎ IsErrOf answer fault.Memory)
  -- no count falls
  pub loads : NoneFell old.load_count new.load_count
  pub saves : NoneFell old.save_count new.save_count
  -- where contents are told, no count rises but the name's own, and that only at a failure
  pub other_loads : IsTold old → OthersStay name old.load_count new.load_count
  pub no_saves : IsTold old → NoneRose old.save_count new.save_count
  pub answered : IsTold old → (answer ≢ Err fault.Failed) → new.load_count name ≡ old.load_count name
  -- a steady object stays so
  pub steady : was → is
  -- a steady object fails only where the file is not there
  pub steady_failed : was → IsErrOf answer fault.Failed → IfSome old.contents (λ held. get held name ≡ None)
  -- a steady object counts nothing where the file is there
  pub steady_counts : was → IfSome old.contents (λ held. IsSome (get held name) → NoneRose old.load_count new.load_count)
