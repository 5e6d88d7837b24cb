-- Forests over numbers: each number has a parent, which is itself at a root.
use Rattle.std.specs.Prelude.{◌≡◌, ℕ, ◌-◌, ◌<◌, ◌≤◌, List, length, Option, Some, slice_get, slice_index}
use Rattle.tmr_base.specs.declared.copies.CopyNo.{CopyNo}
use Rattle.flat_net.specs.Net.{Net, node_of, pins_at}
use Rattle.certificate.specs.declared.role.Role.TheVariants.{Copy, Voter}
use Rattle.certificate.specs.Cert.{PlainCert, role_of}

-- no parent is greater than its child
abbrev pub IsForest : List ℕ → Type 0
IsForest up = (i : ℕ) → i < length up → slice_index up i ≤ i

-- a number is sorted as its parent is
abbrev pub GoesAlong : (ℕ → Option ℕ) → List ℕ → Type 0
GoesAlong f up = (i : ℕ) → i < length up → f (slice_index up i) ≡ f i

-- a voter is sorted as the original node is that reads it
abbrev pub FollowsReaders : (ℕ → Option ℕ) → (ℕ → Option ℕ) → List (Option ℕ) → Type 0
FollowsReaders f w readers = (v y : ℕ) → slice_get readers v ≡ Some (Some y) → w v ≡ f y

-- f sorts the original nodes and w the hardened ones, counted from 0. A copy that reads a copy is sorted as it is, and a voter as
-- each copy that reads it
pub record KeepsJoins (n h : Net) (k : PlainCert) (f w : ℕ → Option ℕ) : Type 0 where
  pub copies : (g y x j : ℕ) (c d : CopyNo) → role_of k g ≡ Some (Copy (record { 0 = y }) c) → j < length (pins_at (node_of h g))
      → role_of k (slice_index (pins_at (node_of h g)) j) ≡ Some (Copy (record { 0 = x }) d) → f (x - length n.inputs) ≡ f (y - length n.inputs)
  pub voters : (g y x p j : ℕ) (c d : CopyNo) → role_of k g ≡ Some (Copy (record { 0 = y }) c) → j < length (pins_at (node_of h g))
      → role_of k (slice_index (pins_at (node_of h g)) j) ≡ Some (Voter (record { 0 = x }) (record { 0 = p }) d)
      → w (slice_index (pins_at (node_of h g)) j - length h.inputs) ≡ f (y - length n.inputs)
