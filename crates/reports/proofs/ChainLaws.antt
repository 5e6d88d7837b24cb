-- Chains are of nets of the original.
use Rattle.std.proofs.Common.{◌≡◌, ℕ, zero, suc, ◌+◌, ◌<◌, ◌⊎◌, inl, inr, Bool, true, false, List, [], length, map, Option, Some, None, refl, sym, subst, arith, All}
use Rattle.std.proofs.lemmas.List.Elements.{All-append}
use Rattle.flat_net.specs.Net.{Net, net_count}
use Rattle.flat_net.specs.Nodes.{number_of}
use Rattle.certificate.specs.declared.role.Role.{Role}
use Rattle.certificate.specs.declared.role.Role.TheVariants.{Copy, Voter}
use Rattle.certificate.specs.Cert.{PlainCert, IsCert, Fits}
use Rattle.recovery_depth.specs.declared.depth_and_chain.Deep.{Deep}
use Rattle.recovery_depth.specs.Depths.{is_some_register}
use Rattle.recovery_depth.specs.Walks.{Walk, starts, goes_on}
use Rattle.recovery_depth.specs.Hardened.{role_at, node_at, original_of, own_original}
use Rattle.recovery_depth.specs.Chains.{HasWalk, IsDeep}
use Rattle.recovery_depth.specs.Least.{AreDeep}
use Rattle.reports.specs.Private.Left.{AreNets}

walk_all : (P : ℕ → Type 0) (Next : ℕ → ℕ → Type 0) (own : ℕ → List ℕ) → ((g : ℕ) → All P (own g)) → (g : ℕ) (seen : List ℕ) → Walk Next own g seen → All P seen
walk_all P Next own each _ _ (starts x) = each x
walk_all P Next own each _ _ (goes_on x y seen w next) = All-append P seen (own y) (walk_all P Next own each x seen w) (each y)

module _ (n h : Net) (k : PlainCert) (is : IsCert k) (fits : Fits n h k) where
  own_nets : (g : ℕ) → All (λ x. x < net_count n) (own_original h k g)
  own_nets g = go (role_at h k g) (is_some_register (node_at h g)) refl
    where
      go : (o : Option Role) (b : Bool) → role_at h k g ≡ o → All (λ x. x < net_count n) (original_of o b)
      go None b e i d l = absurd (omega arith)
      go (Some (Copy x c)) true e zero d l =
          let range = is.roles_in_range (length h.inputs + g) (Copy x c) e in
          omega (arith, range.1, fits.original_inputs, fits.original_nodes)
      go (Some (Copy x c)) true e (suc i) d l = absurd (omega arith)
      go (Some (Copy x c)) false e i d l = absurd (omega arith)
      go (Some (Voter x p c)) b e i d l = absurd (omega arith)

  chain_nets : (p depth : ℕ) (chain : List ℕ) → IsDeep h k p depth chain → All (λ x. x < net_count n) chain
  chain_nets p depth chain deep = go deep.walks
    where
      go : (chain ≡ []) ⊎ HasWalk h k p chain → All (λ x. x < net_count n) chain
      go (inl e) = subst (All (λ x. x < net_count n)) (sym e) (λ i d l. absurd (omega arith))
      go (inr w) = walk_all (λ x. x < net_count n) _ (own_original h k) own_nets w.last chain w.walk

  pub chains_are_nets : (deeps : List Deep) → AreDeep h k deeps → AreNets n deeps
  chains_are_nets deeps are p d at = chain_nets p d.depth (map number_of d.chain.items) (are p d at)
