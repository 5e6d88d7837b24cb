-- Walks of copies in a hardened design, whose nodes are counted from 0, in their order.
use Rattle.std.specs.Prelude.{◌≡◌, ℕ, ◌+◌, ◌<◌, Bool, true, false, List, [], ◌∷◌, length, slice_index, Option, Some, None, if◌then◌else◌}
use Rattle.tmr_base.specs.declared.copies.CopyNo.{CopyNo}
use Rattle.flat_net.specs.Net.{Net, Node, node_of, pins_at}
use Rattle.certificate.specs.declared.role.Role.{Role}
use Rattle.certificate.specs.declared.role.Role.TheVariants.{Copy, Voter}
use Rattle.certificate.specs.Cert.{PlainCert, role_of, part_of}
use Rattle.recovery_depth.specs.Depths.{is_some_register}

-- the role of hardened node g
abbrev pub role_at : Net → PlainCert → ℕ → Option Role
role_at h k g = role_of k (length h.inputs + g)

abbrev pub node_at : Net → ℕ → Option Node
node_at h g = node_of h (length h.inputs + g)

abbrev pub is_copy : Option Role → Bool
is_copy None = false
is_copy (Some (Copy x c)) = true
is_copy (Some (Voter x p c)) = false

-- hardened node g is a copy of number c, of a node of partition p
pub record IsCopyIn (h : Net) (k : PlainCert) (g p : ℕ) (c : CopyNo) : Type 0 where
  pub original : ℕ
  pub role : role_at h k g ≡ Some (Copy (record { 0 = original }) c)
  pub part : part_of k original ≡ Some p

-- copy g reads copy f
pub record ReadsCopy (h : Net) (k : PlainCert) (f g : ℕ) : Type 0 where
  pub pin : ℕ
  pub within : pin < length (pins_at (node_at h g))
  pub is : slice_index (pins_at (node_at h g)) pin ≡ length h.inputs + f
  pub reader : is_copy (role_at h k g) ≡ true
  pub read : is_copy (role_at h k f) ≡ true

-- and both are copies of number c, of nodes of partition p
pub record ReadsWithin (h : Net) (k : PlainCert) (p : ℕ) (c : CopyNo) (f g : ℕ) : Type 0 where
  pub reads : ReadsCopy h k f g
  pub reader_in : IsCopyIn h k g p c
  pub read_in : IsCopyIn h k f p c

-- the original of a copy, if the copy is a register
abbrev pub original_of : Option Role → Bool → List ℕ
original_of None b = []
original_of (Some (Copy x c)) b = if b then x.0 ∷ [] else []
original_of (Some (Voter x p c)) b = []

-- the original register of hardened node g, if this is a copy of one
abbrev pub own_original : Net → PlainCert → ℕ → List ℕ
own_original h k g = original_of (role_at h k g) (is_some_register (node_at h g))
