-- What was read of a file, and went from the reader to a taker.
use Rattle.std.specs.Prelude.{◌≡◌, ◌≤◌, ℕ, List, length, take, Option, IfSome, Result, IsErrOf, OnOk}
use Rattle.std.specs.Io.KnownBytes.{Consumes}
use Rattle.tmr_outside.specs.Counts.{Rose}
use Rattle.tmr_outside.specs.Pieces.{Takes}
use Rattle.tmr_outside.specs.declared.faults.LoadFault.{LoadFault}
use Rattle.tmr_outside.specs.declared.faults.LoadFault.TheVariants as fault

-- At most these many bytes were read: the reader had `unread` and has `rest`, where its bytes are known.
pub record ReadsUpTo (unread rest : Option (List ℕ)) (most : ℕ) : Type 0 where
  pub bytes : List ℕ
  pub read : Consumes unread rest bytes
  pub within : length bytes ≤ most

-- These many bytes went from a reader to a taker.
pub record MovesBytes (unread rest : Option (List ℕ)) (stood stands : List ℕ → Type 0) (room left count : ℕ) : Type 0 where
  pub bytes : List ℕ
  pub counted : length bytes ≡ count
  pub read : Consumes unread rest bytes
  pub takes : Takes stood stands room left bytes

-- At most `limit` bytes went from a reader to a taker. They are the first ones that were unread, where these are known, and after an
-- answer that is `ok` all of them.
pub record MovesFirst (unread : Option (List ℕ)) (stood stands : List ℕ → Type 0) (room left limit : ℕ) (ok : Type 0) : Type 0 where
  pub bytes : List ℕ
  pub takes : Takes stood stands room left bytes
  pub within : length bytes ≤ limit
  pub first : IfSome unread (λ all. take (length bytes) all ≡ bytes)
  pub whole : ok → IfSome unread (λ all. all ≡ bytes)

-- An answer of reading, with the counts of reads that failed, and that failed for want of memory, before it and after it.
pub record TellsFailures {A : Type 0} (answer : Result A LoadFault) (failed_before failed_now starved_before starved_now : ℕ) : Type 0 where
  -- a failure, and want of memory, is answered only where a read failed so
  pub failed : IsErrOf answer fault.Failed → Rose failed_before failed_now
  pub memory : IsErrOf answer fault.Memory → Rose starved_before starved_now
  -- where a read failed, that is answered
  pub ok : OnOk answer ((failed_now ≡ failed_before) × (starved_now ≡ starved_before))
  pub too_long : IsErrOf answer fault.TooLong → (failed_now ≡ failed_before) × (starved_now ≡ starved_before)
