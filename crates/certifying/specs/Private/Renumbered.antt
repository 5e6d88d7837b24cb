-- Roles with the numbers of their partitions.
use Rattle.std.specs.Prelude.{◌≡◌, ℕ, ◌+◌, ◌<◌, List, length, Option, Some, slice_get, slice_index}
use Rattle.tmr_base.specs.Copies.{Three}
use Rattle.flat_net.specs.Net.{Net}
use Rattle.certificate.specs.declared.role.Role.{Role}
use Rattle.certificate.specs.declared.role.Role.TheVariants.{Copy, Voter}
use Rattle.certificate.specs.Cert.{PlainCert, role_of}

-- a copy stays what it is, and a voter votes for the partition of an original node that reads it
abbrev pub IsRenumbered : List ℕ → List (Option ℕ) → ℕ → Role → Role → Type 0
IsRenumbered numbers readers i (Copy x c) after = after ≡ Copy x c
IsRenumbered numbers readers i (Voter x p c) after =
    (y : ℕ) × (slice_get readers i ≡ Some (Some y)) × (y < length numbers) × (after ≡ Voter x (record { 0 = slice_index numbers y }) c)

pub record AreRenumbered (h : Net) (k : PlainCert) (numbers : List ℕ) (readers : List (Option ℕ)) (roles : List Role) : Type 0 where
  pub long : length roles ≡ length h.nodes
  pub each : (i : ℕ) (before after : Role) → role_of k (length h.inputs + i) ≡ Some before → slice_get roles i ≡ Some after
      → IsRenumbered numbers readers i before after

-- the certificate with these partitions, labels and depths
abbrev pub refined : PlainCert → List ℕ → List ℕ → List Three → List Role → PlainCert
refined k depth part labels roles = record {
  version = k.version;
  original_inputs = k.original_inputs;
  hardened_inputs = k.hardened_inputs;
  depth = depth;
  part = part;
  copies = k.copies;
  labels = labels;
  roles = roles;
}
