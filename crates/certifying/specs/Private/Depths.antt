-- Labels of original nodes, and depths of partitions.
use Rattle.std.specs.Prelude.{◌≡◌, ℕ, ◌+◌, ◌-◌, ◌<◌, ◌≤◌, List, length, slice_index, slice_index_or}
use Rattle.tmr_base.specs.declared.copies.CopyNo.{CopyNo}
use Rattle.tmr_base.specs.Copies.{Three, of_copy}
use Rattle.flat_net.specs.Net.{Net}
use Rattle.certificate.specs.Cert.{PlainCert, copy_of}

abbrev pub no_three : Three
no_three = record { first = 0; second = 0; third = 0 }

-- the labels of node i, counted from 0
abbrev pub three_at : List Three → ℕ → Three
three_at threes i = slice_index_or threes i no_three

-- the labels of each node's copies, as those of the hardened nodes are
pub record AreLabels (n h : Net) (k : PlainCert) (labels : List ℕ) (threes : List Three) : Type 0 where
  pub nodes : length threes ≡ length n.nodes
  pub each : (i : ℕ) (c : CopyNo) → i < length threes
      → of_copy (three_at threes i) c ≡ slice_index labels (copy_of k (length n.inputs + i) c - length h.inputs)

-- e is at least each label of node i
abbrev pub IsAbove : List Three → ℕ → ℕ → Type 0
IsAbove threes i e = (c : CopyNo) → of_copy (three_at threes i) c ≤ e

-- no depths that reach the labels are smaller: neither those of these partitions, nor those of partitions that hold these
pub record AreDepths (numbers : List ℕ) (threes : List Three) (depths : List ℕ) : Type 0 where
  pub parts : (d : ℕ → ℕ) → ((i : ℕ) → i < length numbers → IsAbove threes i (d (slice_index numbers i)))
      → (p : ℕ) → slice_index depths p ≤ d p
  pub nodes : (e : ℕ → ℕ) → ((i : ℕ) → i < length numbers → IsAbove threes i (e i))
      → ((i j : ℕ) → i < length numbers → j < length numbers → slice_index numbers i ≡ slice_index numbers j → e i ≡ e j)
      → (i : ℕ) → i < length numbers → slice_index depths (slice_index numbers i) ≤ e i
