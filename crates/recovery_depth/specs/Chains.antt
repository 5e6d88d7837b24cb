-- Longest chains of registers in the partitions of a hardened design.
use Rattle.std.specs.Prelude.{◌≡◌, ℕ, ◌≤◌, ◌⊎◌, List, [], length}
use Rattle.tmr_base.specs.declared.copies.CopyNo.{CopyNo}
use Rattle.tmr_base.specs.Copies.{Three}
use Rattle.flat_net.specs.Net.{Net}
use Rattle.certificate.specs.Cert.{PlainCert}
use Rattle.certificate.specs.Rules.{Rule6, Rule7}
use Rattle.recovery_depth.specs.Walks.{Walk}
use Rattle.recovery_depth.specs.Hardened.{IsCopyIn, ReadsCopy, ReadsWithin, own_original}

-- the originals of the registers of a walk of copies of one number in partition p, first to last
pub record HasWalk (h : Net) (k : PlainCert) (p : ℕ) (chain : List ℕ) : Type 0 where
  pub copy : CopyNo
  pub last : ℕ
  pub last_in : IsCopyIn h k last p copy
  pub walk : Walk (ReadsWithin h k p copy) (own_original h k) last chain

-- no walk of copies that ends in partition p has more registers than `depth`, and the chain has as many
pub record IsDeep (h : Net) (k : PlainCert) (p depth : ℕ) (chain : List ℕ) : Type 0 where
  pub most : (g : ℕ) (c : CopyNo) (seen : List ℕ) → IsCopyIn h k g p c → Walk (ReadsCopy h k) (own_original h k) g seen → length seen ≤ depth
  pub long : length chain ≡ depth
  pub walks : (chain ≡ []) ⊎ HasWalk h k p chain

-- the certificate with other labels and depths
abbrev pub relabeled : PlainCert → List Three → List ℕ → PlainCert
relabeled k labels depths = record {
  version = k.version;
  original_inputs = k.original_inputs;
  hardened_inputs = k.hardened_inputs;
  depth = depths;
  part = k.part;
  copies = k.copies;
  labels = labels;
  roles = k.roles;
}

-- labels reach what pins want, and depths reach the labels
pub record Admits (h : Net) (k : PlainCert) : Type 0 where
  pub labels : (g : ℕ) → Rule6 h k g
  pub depths : (g : ℕ) → Rule7 k g
