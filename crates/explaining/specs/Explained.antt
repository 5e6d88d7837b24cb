-- All places at which a rule fails, and why.
use Rattle.std.specs.Prelude.{◌≡◌, ℕ, ◌-◌, ◌<◌, ◌⊎◌, ◌==◌, Bool, List, [], ◌∷◌, ◌++◌, length, take, codes, Some, slice_get, All, Any, AllPairs, if◌then◌else◌}
use Rattle.std.specs.List.{flat_map, concat}
use Rattle.std.specs.Fmt.{decimal}
use Rattle.flat_net.specs.Net.{Net}
use Rattle.certificate.specs.Cert.{PlainCert}
use Rattle.certificate.specs.Rules.{Holds, FailsFirst}
use Rattle.explaining.specs.declared.rule.Rule.{Rule}
use Rattle.explaining.specs.declared.reason.Reason.{Reason}
use Rattle.explaining.specs.Reasons.{number, Explains}
use Rattle.explaining.specs.Words.{place_text, reason_text}

-- a rule, a place at which it fails, and why
pub record Failure : Type 0 where
  pub rule : Rule
  pub place : ℕ
  pub reason : Reason

-- rule q at one place stands before rule r at the other
abbrev pub IsBefore : ℕ → ℕ → ℕ → ℕ → Type 0
IsBefore q other r place = (q < r) ⊎ ((q ≡ r) × (other < place))

abbrev pub Precedes : Failure → Failure → Type 0
Precedes a b = IsBefore (number a.rule) a.place (number b.rule) b.place

-- rule r at this place is one of the failures
abbrev pub IsListed : List Failure → ℕ → ℕ → Type 0
IsListed failures r place = Any (λ e. (number e.rule ≡ r) × (e.place ≡ place)) failures

-- all failures of a pair, in order, each once; f and g are the marks that count. The first is the least rule that fails, at the least place
pub record AreAllFailures (n : Net) (f : List Bool) (h : Net) (g : List Bool) (k : PlainCert) (failures : List Failure) : Type 0 where
  pub complete : (r place : ℕ) → Holds n f h g k r place ⊎ IsListed failures r place
  pub fails : All (λ e. Holds n f h g k (number e.rule) e.place → ⊥) failures
  pub reasons : All (λ e. Explains n f h g k e.rule e.place e.reason) failures
  pub ordered : AllPairs Precedes failures
  pub first : (e : Failure) → slice_get failures 0 ≡ Some e → FailsFirst n f h g k (number e.rule) e.place

-- `rule R at PLACE: WHY`
abbrev pub failure_line : Net → Net → PlainCert → Failure → List ℕ
failure_line n h k e =
    concat (codes "rule " ∷ decimal (number e.rule) ∷ codes " at " ∷ place_text h e.rule e.place
    ∷ codes ": " ∷ reason_text n h k e.place e.reason ∷ codes "\n" ∷ [])

-- how many there are beyond those that have a line
abbrev pub more_line : ℕ → List ℕ
more_line m = if m == 0 then [] else concat (codes "and " ∷ decimal m ∷ codes " more\n" ∷ [])

-- a line for each of the first 100, and then how many more there are
abbrev pub failures_text : Net → Net → PlainCert → List Failure → List ℕ
failures_text n h k failures = flat_map (failure_line n h k) (take 100 failures) ++ more_line (length failures - 100)

-- the text that tells all failures of a pair
pub record IsExplanation (n : Net) (f : List Bool) (h : Net) (g : List Bool) (k : PlainCert) (text : List ℕ) : Type 0 where
  pub failures : List Failure
  pub all : AreAllFailures n f h g k failures
  pub text_is : text ≡ failures_text n h k failures
