-- The rules of single nodes. f and g are the marks of n and h. Private functions alone cite it.
use Rattle.std.specs.Prelude.{ℕ, Bool, List}
use Rattle.flat_net.specs.Net.{Net}
use Rattle.certificate.specs.Cert.{PlainCert}
use Rattle.validator.specs.declared.node_rules.NodeRule.{NodeRule}
use Rattle.validator.specs.declared.node_rules.NodeRule.TheVariants.{Tables, Registers, Voters, Labels, Depths}
use Rattle.certificate.specs.Rules.{Rule3, Rule4, Rule5, Rule6, Rule7}

-- the rule holds at hardened net y
abbrev pub NodeHolds : Net → List Bool → Net → List Bool → PlainCert → NodeRule → ℕ → Type 0
NodeHolds n f h g k Tables y = Rule3 n h k y
NodeHolds n f h g k Registers y = Rule4 n f h g k y
NodeHolds n f h g k Voters y = Rule5 h k y
NodeHolds n f h g k Labels y = Rule6 h k y
NodeHolds n f h g k Depths y = Rule7 k y
