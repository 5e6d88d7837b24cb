-- What is found so far.
use Rattle.std.specs.Prelude.{◌≡◌, ℕ, ◌+◌, ◌*◌, ◌≤◌, ◌⊎◌, max, Bool, nat_lt, List, [], length, take, All, AllPairs, if◌then◌else◌}
use Rattle.std.specs.List.{flat_map}
use Rattle.flat_net.specs.Net.{Net}
use Rattle.certificate.specs.Cert.{PlainCert}
use Rattle.certificate.specs.Rules.{SameEdge, Rule3, Rule4, Rule5, Rule6, Rule7, Rule8}
use Rattle.explaining.specs.declared.rule.Rule.{Rule}
use Rattle.explaining.specs.declared.rule.Rule.TheVariants.{Inputs, Clocks, Tables, Registers, Voters, Labels, Depths, Outputs}
use Rattle.explaining.specs.declared.telling.Told.{Told}
use Rattle.explaining.specs.Reasons.{number, Explains}
use Rattle.explaining.specs.Explained.{Failure, IsBefore, Precedes, IsListed, failure_line}

-- the rule holds at this place
abbrev pub RuleHolds : Net → List Bool → Net → List Bool → PlainCert → Rule → ℕ → Type 0
RuleHolds n f h g k Inputs place = place ≡ 0 → length h.inputs ≡ 3 * length n.inputs
RuleHolds n f h g k Clocks place = place ≡ 0 → SameEdge n.clock h.clock
RuleHolds n f h g k Tables place = Rule3 n h k (length h.inputs + place)
RuleHolds n f h g k Registers place = Rule4 n f h g k (length h.inputs + place)
RuleHolds n f h g k Voters place = Rule5 h k (length h.inputs + place)
RuleHolds n f h g k Labels place = Rule6 h k (length h.inputs + place)
RuleHolds n f h g k Depths place = Rule7 k (length h.inputs + place)
RuleHolds n f h g k Outputs place = Rule8 n h k place

-- how many places a rule has
abbrev pub place_count : Net → Net → Rule → ℕ
place_count n h Inputs = 1
place_count n h Clocks = 1
place_count n h Outputs = max (length h.outputs) (3 * length n.outputs)
place_count n h rule = length h.nodes

-- the line of a failure, where fewer than 100 stand before it
abbrev pub shown : ℕ → List ℕ → List ℕ
shown before line = if nat_lt before 100 then line else []

-- the failures before rule r at a place
pub record AreFailuresBefore (n : Net) (f : List Bool) (h : Net) (g : List Bool) (k : PlainCert) (r place : ℕ) (failures : List Failure) : Type 0 where
  pub complete : (rule : Rule) (other : ℕ) → IsBefore (number rule) other r place
      → RuleHolds n f h g k rule other ⊎ IsListed failures (number rule) other
  pub reasons : All (λ e. Explains n f h g k e.rule e.place e.reason) failures
  pub ordered : AllPairs Precedes failures
  pub before : All (λ e. IsBefore (number e.rule) e.place r place) failures
  pub few : length failures ≤ 17179869184 * r + place

-- they are told
pub record IsToldBefore (n : Net) (f : List Bool) (h : Net) (g : List Bool) (k : PlainCert) (r place : ℕ) (told : Told) : Type 0 where
  pub failures : List Failure
  pub are : AreFailuresBefore n f h g k r place failures
  pub text : told.text.items ≡ flat_map (failure_line n h k) (take 100 failures)
  pub count : told.count ≡ length failures
