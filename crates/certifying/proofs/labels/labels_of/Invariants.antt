use Rattle.std.proofs.Common.{◌≡◌, length}
use Rattle.certifying.specs.Private.Labels.{AreBelow}
use Rattle.certifying.proofs.labels.labels_of.Given as goal

abbrev pub invariant-loop-i : goal.invariant-loop-i
invariant-loop-i l = record { long : length l.labels.items ≡ length l.h.net.nodes; below : AreBelow l.h.net l.k l.labels.items }
