-- Rule 5 at a voter.
use Rattle.std.proofs.Common.{◌≡◌, ◌↔◌, ℕ, Some, subst}
use Rattle.tmr_base.specs.declared.ids.NetId.{NetId}
use Rattle.tmr_base.specs.declared.ids.PartId.{PartId}
use Rattle.tmr_base.specs.declared.copies.CopyNo.{CopyNo}
use Rattle.certificate.specs.declared.role.Role.TheVariants.{Voter}
use Rattle.flat_net.specs.Net.{Net, node_of}
use Rattle.certificate.specs.Cert.{PlainCert, role_of}
use Rattle.certificate.specs.Rules.{Votes, Rule5}

pub rule_5_at_voter : (h : Net) (k : PlainCert) (g : ℕ) (y : NetId) (q : PartId) (d : CopyNo) → role_of k g ≡ Some (Voter y q d) → Rule5 h k g ↔ Votes k (node_of h g) y.0
rule_5_at_voter h k g y q d is =
    (λ rule. rule y.0 q.0 d is, λ votes x p c e. let same : y.0 ≡ x = cc in subst (λ (z : ℕ). Votes k (node_of h g) z) same votes)
