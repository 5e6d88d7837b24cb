-- What files in memory are, and what calls do to them.
use Rattle.std.specs.Prelude.{◌≡◌, ℕ, List, [], ◌∷◌, ◌++◌, Some, refl}
use Rattle.std.specs.Coded.{Coded, code_by, coded×, coded_ℕ, coded_list}
use Rattle.std.specs.FinMap.{empty, insert}
use Rattle.tmr_outside.specs.Contents.{Contents, contents_code}
use Rattle.tmr_outside.specs.Plan.{Plan, plan_code, after_call, with_failure}
use Rattle.tmr_outside.specs.FailedCalls.{loads_of, saves_of}
use Rattle.tmr_outside.specs.Seen.{FilesSeen}
use Rattle.tmr_outside.specs.declared.failed_calls.CallKind.{CallKind}

-- what each name holds, the calls that failed, and which calls are to fail
pub record FilesInMemory : Type 0 where
  pub held : Contents
  pub failed : List (CallKind × List ℕ)
  pub plan : Plan

-- files are stored as the tuple of the fields
abbrev pub files_code : Coded CallKind → Coded FilesInMemory
files_code kind = code_by (Contents × (List (CallKind × List ℕ) × Plan))
    (coded× contents_code (coded× (coded_list (coded× kind (coded_list coded_ℕ))) plan_code))
    (λ files. (files.held, (files.failed, files.plan))) (λ p. record { held = p.0; failed = p.1.0; plan = p.1.1 }) (λ _. refl)

-- how many of the calls that failed were loads of a name
abbrev pub failed_loads : FilesInMemory → List ℕ → ℕ
failed_loads files = loads_of files.failed

-- how many of the calls that failed were saves of a name
abbrev pub failed_saves : FilesInMemory → List ℕ → ℕ
failed_saves files = saves_of files.failed

-- what is seen of them: all is told
abbrev pub files_seen : FilesInMemory → FilesSeen
files_seen files = record { contents = Some files.held; load_count = failed_loads files; save_count = failed_saves files }

-- no call is to fail
abbrev pub is_steady : FilesInMemory → Type 0
is_steady files = files.plan.failing ≡ empty

-- a call was made
abbrev pub called : FilesInMemory → FilesInMemory
called files = record files { plan = after_call files.plan }

-- a call failed
abbrev pub noting : FilesInMemory → CallKind → List ℕ → FilesInMemory
noting files kind name = record files { failed = files.failed ++ (kind, name) ∷ [] }

-- a name holds these bytes
abbrev pub holding : FilesInMemory → List ℕ → List ℕ → FilesInMemory
holding files name bytes = record files { held = insert files.held name bytes }

-- one more call is to fail, or leaves another prefix
abbrev pub failing_at : FilesInMemory → ℕ → ℕ → FilesInMemory
failing_at files call keep = record files { plan = with_failure files.plan call keep }
