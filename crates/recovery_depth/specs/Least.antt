-- What `least` answers.
use Rattle.std.specs.Prelude.{◌≡◌, ℕ, ◌≤◌, List, [], map, Some, slice_get, slice_index}
use Rattle.tmr_base.specs.Copies.{Three}
use Rattle.tmr_base.specs.declared.copies.CopyNo.{CopyNo}
use Rattle.flat_net.specs.Net.{Net}
use Rattle.flat_net.specs.Nodes.{number_of}
use Rattle.certificate.specs.declared.role.Role.TheVariants.{Copy}
use Rattle.certificate.specs.Cert.{PlainCert, label_of}
use Rattle.recovery_depth.specs.declared.depth_and_chain.Deep.{Deep}
use Rattle.recovery_depth.specs.Walks.{IsReach}
use Rattle.recovery_depth.specs.Hardened.{role_at, ReadsCopy, own_original}
use Rattle.recovery_depth.specs.Chains.{IsDeep, relabeled, Admits}

-- each partition has the most registers of its walks for its depth, and a chain of so many
abbrev pub AreDeep : Net → PlainCert → List Deep → Type 0
AreDeep h k deeps = (p : ℕ) (d : Deep) → slice_get deeps p ≡ Some d → IsDeep h k p d.depth (map number_of d.chain.items)

-- no labels and depths that the rules admit have a smaller depth
abbrev pub AreLeast : Net → PlainCert → List Deep → Type 0
AreLeast h k deeps = (labels : List Three) (depths : List ℕ) → Admits h (relabeled k labels depths) → (p : ℕ) (d : Deep)
    → slice_get deeps p ≡ Some d → d.depth ≤ slice_index depths p

-- each label is the most registers of a walk that ends in its copy
abbrev pub AreReaches : Net → PlainCert → List Three → Type 0
AreReaches h k labels = (g x : ℕ) (c : CopyNo) → role_at h k g ≡ Some (Copy (record { 0 = x }) c)
    → IsReach (ReadsCopy h k) (own_original h k) g (label_of (relabeled k labels []) x c)

abbrev pub depth_in : Deep → ℕ
depth_in d = d.depth

-- the rules admit these depths, with the most registers of walks for labels
pub record AreAdmitted (h : Net) (k : PlainCert) (deeps : List Deep) : Type 0 where
  pub labels : List Three
  pub reaches : AreReaches h k labels
  pub admits : Admits h (relabeled k labels (map depth_in deeps))
