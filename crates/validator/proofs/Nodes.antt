-- Past all nodes the rules of nodes hold.
use Rattle.std.proofs.Common.{◌≡◌, ℕ, Bool, List, ◌+◌, ◌<◌, ◌≤◌, ◌⊎◌, Some, length, arith, inl, inr}
use Rattle.flat_net.specs.Net.{Net}
use Rattle.flat_net.proofs.Slots.{slot_within}
use Rattle.certificate.specs.Cert.{PlainCert, Fits, role_of}
use Rattle.certificate.specs.declared.role.Role.{Role}
use Rattle.validator.specs.declared.node_rules.NodeRule.{NodeRule}
use Rattle.validator.specs.declared.node_rules.NodeRule.TheVariants.{Tables, Registers, Voters, Labels, Depths}
use Rattle.validator.specs.NodeRules.{NodeHolds}

no_role : (n h : Net) (k : PlainCert) (i : ℕ) (r : Role) → Fits n h k → length h.nodes ≤ i → role_of k (length h.inputs + i) ≡ Some r → ⊥
no_role n h k i r fits past e =
    let within = slot_within k.hardened_inputs k.roles (length h.inputs + i) r e in
    let inputs : k.hardened_inputs ≡ length h.inputs = fits.hardened_inputs in
    let nodes : length k.roles ≡ length h.nodes = fits.hardened_nodes in
    omega (arith, within)

node_rule_past : (rule : NodeRule) (n : Net) (f : List Bool) (h : Net) (g : List Bool) (k : PlainCert) (i : ℕ) → Fits n h k → length h.nodes ≤ i → NodeHolds n f h g k rule (length h.inputs + i)
node_rule_past Tables n f h g k i fits past = λ x c p e part. absurd (no_role n h k i _ fits past e)
node_rule_past Registers n f h g k i fits past = λ x c p e part. absurd (no_role n h k i _ fits past e)
node_rule_past Voters n f h g k i fits past = λ x p c e. absurd (no_role n h k i _ fits past e)
node_rule_past Labels n f h g k i fits past = λ x c e. absurd (no_role n h k i _ fits past e)
node_rule_past Depths n f h g k i fits past = λ x c p e part. absurd (no_role n h k i _ fits past e)

-- a rule that holds of each node holds everywhere
pub node_rule_all : (rule : NodeRule) (n : Net) (f : List Bool) (h : Net) (g : List Bool) (k : PlainCert) → Fits n h k → ((i : ℕ) → i < length h.nodes → NodeHolds n f h g k rule (length h.inputs + i)) → (i : ℕ) → NodeHolds n f h g k rule (length h.inputs + i)
node_rule_all rule n f h g k fits each i = go (cases i (length h.nodes))
  where
    cases : (a b : ℕ) → (a < b) ⊎ (b ≤ a)
    cases a b = grind arith

    go : (i < length h.nodes) ⊎ (length h.nodes ≤ i) → NodeHolds n f h g k rule (length h.inputs + i)
    go (inl l) = each i l
    go (inr past) = node_rule_past rule n f h g k i fits past
