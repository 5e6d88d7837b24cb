use Rattle.std.proofs.Common.{◌≡◌, ℕ, ◌+◌, ◌-◌, ◌<◌, length, get_or, map, All}
use Rattle.tmr_base.specs.declared.copies.CopyNo.{CopyNo}
use Rattle.tmr_base.specs.Copies.{of_copy}
use Rattle.certificate.specs.Threes.{three_of}
use Rattle.certificate.specs.Cert.{copy_of}
use Rattle.certifying.specs.Private.Bare.{AreSmall}
use Rattle.certifying.specs.Private.Depths.{three_at}
use Rattle.certifying.proofs.depths.node_labels.Given as goal

abbrev pub invariant-loop-i : goal.invariant-loop-i
invariant-loop-i l = record {
  long : length (map three_of l.threes.items) ≡ l.i;
  each : (j : ℕ) → j < l.i → (c : CopyNo) → of_copy (three_at (map three_of l.threes.items) j) c ≡ get_or l.labels (copy_of l.k (length l.n.net.inputs + j) c - length l.h.net.inputs) 0;
  small : All AreSmall (map three_of l.threes.items);
}
