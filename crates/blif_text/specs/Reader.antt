-- What a reader is between two pieces, and which lists of bytes it stands for.
use Rattle.std.specs.Prelude.{◌≡◌, ℕ, ◌+◌, ◌≤◌, List, length, Option, Some, None, Result, Ok, Err}
use Rattle.limits.specs.Most.{widest_text}
use Rattle.blif_text.specs.declared.fault.TextFault.{TextFault}
use Rattle.blif_text.specs.declared.fault.TextFault.TheVariants as faults
use Rattle.blif_text.specs.Kind.{Bad}
use Rattle.blif_text.specs.Private.Pending.{Pending}
use Rattle.blif_text.specs.Private.Progress.{Progress}
use Rattle.blif_text.specs.Private.Sound.{IsSound}
use Rattle.blif_text.specs.Private.Stands.{Stands, IsBadOf}

-- how many more bytes may come, what is in hand of the last statement, what the statements before it gave,
-- and the fault that each call answers from the first refusal on
pub record ReaderState : Type 0 where
  pub room : ℕ
  pub pending : Pending
  pub progress : Progress
  pub refused : Option TextFault

-- the bytes that all pieces together may have
abbrev pub most_bytes : ℕ
most_bytes = widest_text

-- what has been given is read so far, or refused
abbrev pub HasRead : Option TextFault → Pending → Progress → List ℕ → Type 0
HasRead None pending progress given = Stands pending progress given
HasRead (Some fault) pending progress given = IsBadOf given fault

-- The reader has been given these bytes, in whatever pieces. A new one stands for no bytes.
pub record StandsFor (r : ReaderState) (given : List ℕ) : Type 0 where
  pub size : length given + r.room ≡ most_bytes
  pub read : HasRead r.refused r.pending r.progress given

-- what every reader keeps
pub record KeepsOn (r : ReaderState) : Type 0 where
  pub lines : r.pending.number + r.room ≤ most_bytes + 1
  pub sound : r.refused ≡ None → IsSound r.progress

-- unless memory ran out, the answer is the first bad line, or that there is none
abbrev pub FirstBadIs : Option Bad → Result (Unit {0}) TextFault → Type 0
FirstBadIs bad (Ok _) = bad ≡ None
FirstBadIs bad (Err (faults.Bad line kind)) = bad ≡ Some (record { line = line; kind = kind })
FirstBadIs bad (Err faults.Memory) = Unit {0}
