-- Labels that reach what pins want, whatever else they are.
use Rattle.std.specs.Prelude.{◌≡◌, ℕ, ◌+◌, ◌<◌, ◌≤◌, List, length, Option, Some, None, slice_index}
use Rattle.tmr_base.specs.declared.copies.CopyNo.{CopyNo}
use Rattle.flat_net.specs.Net.{Net, Node, Table, Register, node_of}
use Rattle.certificate.specs.declared.role.Role.TheVariants.{Copy}
use Rattle.certificate.specs.Cert.{PlainCert, role_of}

-- e reaches what the node's pins count
abbrev pub Reaches : (ℕ → ℕ) → Option Node → ℕ → Type 0
Reaches l None e = Unit {0}
Reaches l (Some (Table name cover pins)) e = (j : ℕ) → j < length pins → l (slice_index pins j) ≤ e
Reaches l (Some (Register name init pin)) e = l pin + 1 ≤ e

-- l has a number for each hardened net, and that of a copy reaches what its pins count
abbrev pub AreReached : Net → PlainCert → (ℕ → ℕ) → Type 0
AreReached h k l = (g x : ℕ) (c : CopyNo) → role_of k g ≡ Some (Copy (record { 0 = x }) c) → Reaches l (node_of h g) (l g)

-- no labels that are reached are smaller than these, one for each hardened node
abbrev pub AreBelow : Net → PlainCert → List ℕ → Type 0
AreBelow h k labels = (l : ℕ → ℕ) → AreReached h k l → (i : ℕ) → i < length labels → slice_index labels i ≤ l (length h.inputs + i)
