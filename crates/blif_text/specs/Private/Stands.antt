-- What a reader between two pieces stands for.
use Rattle.std.specs.Prelude.{◌≡◌, ℕ, List, [], ◌∷◌, ◌++◌, length, Some, None, Result, Ok, Err, ◌==◌, if◌then◌else◌}
use Rattle.blif_text.specs.declared.fault.TextKind.TheVariants.{NoModel}
use Rattle.blif_text.specs.declared.fault.TextFault.{TextFault}
use Rattle.blif_text.specs.declared.fault.TextFault.TheVariants as faults
use Rattle.blif_text.specs.declared.fault.Refusal.{Refusal}
use Rattle.blif_text.specs.declared.fault.Refusal.TheVariants as refusals
use Rattle.blif_text.specs.Text.{Statement, ended_statements}
use Rattle.blif_text.specs.Kind.{Bad}
use Rattle.blif_text.specs.Private.Latest.{first_bad}
use Rattle.blif_text.specs.Models.{PlainModel}
use Rattle.blif_text.specs.Private.Pending.{Pending, IsOneLine, to_come}
use Rattle.blif_text.specs.Private.Progress.{Progress, Keeps, before, kind_in, after, all_models}
use Rattle.blif_text.specs.Reading.{ended_bad}
use Rattle.blif_text.specs.Private.Answers.{Answers}

-- what has been given is read up to the line in hand, and none of its statements is bad
pub record Stands (p : Pending) (q : Progress) (given : List ℕ) : Type 0 where
  pub earlier : List Statement
  pub one_line : IsOneLine p.line
  pub keeps : Keeps q earlier
  pub none_bad : (more : List Statement) → first_bad [] (before earlier more) ≡ first_bad earlier more
  pub rest : (more : List ℕ) → ended_statements (given ++ more) ≡ before earlier (to_come p more)
  pub started : length q.names ≡ 0 → earlier ≡ []

-- the statements of one joined line are taken, unless memory ran out
abbrev pub Takes : List Statement → Progress → Progress → Result (Unit {0}) Refusal → Type 0
Takes [] old new result = Answers result None (λ _. new ≡ old)
Takes (s ∷ none) old new result = Answers result (kind_in old s) (λ _. new ≡ after old s)

-- the fault is that of the given bytes, whatever comes behind them
abbrev pub IsBadOf : List ℕ → TextFault → Type 0
IsBadOf given (faults.Bad line kind) = (more : List ℕ) → ended_bad (given ++ more) ≡ Some (record { line = line; kind = kind })
IsBadOf given faults.Memory = Unit {0}

-- the fault is that of the statement that is refused
abbrev pub Refuses : ℕ → (Result (Unit {0}) Refusal → Type 0) → TextFault → Type 0
Refuses first takes (faults.Bad line kind) = (line ≡ first) × takes (Err (refusals.Bad kind))
Refuses first takes faults.Memory = Unit {0}

-- the reading of a text of which this is kept
abbrev pub reading_in : Progress → Result (List PlainModel) Bad
reading_in q = if length q.names == 0 then Err (record { line = 1; kind = NoModel }) else Ok (all_models q)
