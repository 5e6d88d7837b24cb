-- The numbers of rules.
use Rattle.std.proofs.Common.{◌≡◌, ℕ, zero, suc, ◌≤◌, ◌⊎◌, inl, inr, refl, sym, ap, ◌∙◌, subst, arith, Bool, List}
use Rattle.std.specs.Prelude.{◌==◌, if◌then◌else◌}
use Rattle.flat_net.specs.Net.{Net}
use Rattle.certificate.specs.Cert.{PlainCert}
use Rattle.certificate.specs.Rules.{Holds}
use Rattle.explaining.specs.declared.rule.Rule.{Rule}
use Rattle.explaining.specs.declared.rule.Rule.TheVariants.{Inputs, Clocks, Tables, Registers, Voters, Labels, Depths, Outputs}
use Rattle.explaining.specs.Reasons.{number}
use Rattle.explaining.specs.Private.Found.{RuleHolds}

-- the rule with this number
abbrev rule_with : ℕ → Rule
rule_with m =
    if m == 1 then Inputs else if m == 2 then Clocks else if m == 3 then Tables else if m == 4 then Registers
    else if m == 5 then Voters else if m == 6 then Labels else if m == 7 then Depths else Outputs

with_number : (r : Rule) → rule_with (number r) ≡ r
with_number Inputs = refl
with_number Clocks = refl
with_number Tables = refl
with_number Registers = refl
with_number Voters = refl
with_number Labels = refl
with_number Depths = refl
with_number Outputs = refl

pub number_same : (a b : Rule) → number a ≡ number b → a ≡ b
number_same a b e = sym (with_number a) ∙ (ap rule_with e ∙ with_number b)

pub number_low : (r : Rule) → 1 ≤ number r
number_low Inputs = omega arith
number_low Clocks = omega arith
number_low Tables = omega arith
number_low Registers = omega arith
number_low Voters = omega arith
number_low Labels = omega arith
number_low Depths = omega arith
number_low Outputs = omega arith

pub number_high : (r : Rule) → number r ≤ 8
number_high Inputs = omega arith
number_high Clocks = omega arith
number_high Tables = omega arith
number_high Registers = omega arith
number_high Voters = omega arith
number_high Labels = omega arith
number_high Depths = omega arith
number_high Outputs = omega arith

-- a number is that of a rule, or of none
pub numbered : (m : ℕ) → ((r : Rule) × (number r ≡ m)) ⊎ ((r : Rule) → number r ≡ m → ⊥)
numbered zero = inr (λ r e. omega (arith, number_low r, e))
numbered (suc zero) = inl (Inputs, refl)
numbered (suc (suc zero)) = inl (Clocks, refl)
numbered (suc (suc (suc zero))) = inl (Tables, refl)
numbered (suc (suc (suc (suc zero)))) = inl (Registers, refl)
numbered (suc (suc (suc (suc (suc zero))))) = inl (Voters, refl)
numbered (suc (suc (suc (suc (suc (suc zero)))))) = inl (Labels, refl)
numbered (suc (suc (suc (suc (suc (suc (suc zero))))))) = inl (Depths, refl)
numbered (suc (suc (suc (suc (suc (suc (suc (suc zero)))))))) = inl (Outputs, refl)
numbered (suc (suc (suc (suc (suc (suc (suc (suc (suc m))))))))) = inr (λ r e. omega (arith, number_high r, e))

module _ (n : Net) (f : List Bool) (h : Net) (g : List Bool) (k : PlainCert) where
  -- a number's rule holds at a place where each rule with that number does
  pub holds_where : (r place : ℕ) → ((rule : Rule) → number rule ≡ r → RuleHolds n f h g k rule place) → Holds n f h g k r place
  holds_where r place each = record {
    inputs = λ e. each Inputs (sym e);
    clocks = λ e. each Clocks (sym e);
    tables = λ e. each Tables (sym e);
    registers = λ e. each Registers (sym e);
    voters = λ e. each Voters (sym e);
    labels = λ e. each Labels (sym e);
    depths = λ e. each Depths (sym e);
    outputs = λ e. each Outputs (sym e);
  }

  pub rule_holds : (rule : Rule) (place : ℕ) → RuleHolds n f h g k rule place → Holds n f h g k (number rule) place
  rule_holds rule place is = holds_where (number rule) place (λ other e. subst (λ (r : Rule). RuleHolds n f h g k r place) (sym (number_same other rule e)) is)

  pub holds_rule : (rule : Rule) (place : ℕ) → Holds n f h g k (number rule) place → RuleHolds n f h g k rule place
  holds_rule Inputs place is = is.inputs refl
  holds_rule Clocks place is = is.clocks refl
  holds_rule Tables place is = is.tables refl
  holds_rule Registers place is = is.registers refl
  holds_rule Voters place is = is.voters refl
  holds_rule Labels place is = is.labels refl
  holds_rule Depths place is = is.depths refl
  holds_rule Outputs place is = is.outputs refl
