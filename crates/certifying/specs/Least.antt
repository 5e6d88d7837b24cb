-- The least labels and depths that roles and partitions admit.
use Rattle.std.specs.Prelude.{ℕ, ◌<◌, ◌≤◌, List, length, slice_index}
use Rattle.tmr_base.specs.declared.copies.CopyNo.{CopyNo}
use Rattle.tmr_base.specs.Copies.{Three}
use Rattle.flat_net.specs.Net.{Net}
use Rattle.certificate.specs.Cert.{PlainCert, label_of, depth_of}
use Rattle.recovery_depth.specs.Chains.{relabeled, Admits}

-- no labels and depths of which rules 6 and 7 hold, with the same roles and partitions, are smaller anywhere
pub record AreLeastLabels (h : Net) (k : PlainCert) : Type 0 where
  pub no_smaller_label : (others : List Three) (depths : List ℕ) → Admits h (relabeled k others depths)
      → (x : ℕ) (c : CopyNo) → label_of k x c ≤ label_of (relabeled k others depths) x c
  pub no_smaller_depth : (others : List Three) (depths : List ℕ) → Admits h (relabeled k others depths)
      → (p : ℕ) → p < length k.depth → depth_of k p ≤ slice_index depths p
