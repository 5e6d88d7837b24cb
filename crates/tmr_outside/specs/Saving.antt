-- What is seen when a file is saved.
use Rattle.std.specs.Prelude.{◌≡◌, ◌≢◌, ℕ, List, Result, Err, IsErrOf, OnOk, option_map}
use Rattle.std.specs.FinMap.{insert}
use Rattle.tmr_outside.specs.Contents.{SameElsewhere}
use Rattle.tmr_outside.specs.Counts.{RoseOf, NoneFell, NoneRose, OthersStay}
use Rattle.tmr_outside.specs.Seen.{FilesSeen, IsTold}
use Rattle.tmr_outside.specs.declared.faults.SaveFault.{SaveFault}
use Rattle.tmr_outside.specs.declared.faults.SaveFault.TheVariants as fault

-- A save of these bytes under this name gave this answer. `old` was seen before it and `new` is seen after it; `was` says that the
-- object was steady, and `is` that it is.
pub record IsSave {A : Type 0} (name bytes : List ℕ) (answer : Result A SaveFault) (old new : FilesSeen) (was is : Type 0) : Type 0 where
  -- the name holds the bytes, and all other names what they held
  pub ok : OnOk answer (new.contents ≡ option_map (λ held. insert held name bytes) old.contents)
  -- after want of memory all names are as before
  pub memory : IsErrOf answer fault.Memory → new.contents ≡ old.contents
  -- whatever the answer, all other names are as before
  pub others : SameElsewhere name old.contents new.contents
  -- a failure is counted at the name
  pub failed : IsErrOf answer fault.Failed → RoseOf old.contents (old.save_count name) (new.save_count name)
  -- no count falls
  pub loads : NoneFell old.load_count new.load_count
  pub saves : NoneFell old.save_count new.save_count
  -- where contents are told, no count rises but the name's own, and that only at a failure
  pub no_loads : IsTold old → NoneRose old.load_count new.load_count
  pub other_saves : IsTold old → OthersStay name old.save_count new.save_count
  pub answered : IsTold old → (answer ≢ Err fault.Failed) → new.save_count name ≡ old.save_count name
  -- a steady object stays so
  pub steady : was → is
  -- a steady object does not fail, and counts nothing
  pub steady_ok : was → (answer ≢ Err fault.Failed) × NoneRose old.save_count new.save_count × NoneRose old.load_count new.load_count
