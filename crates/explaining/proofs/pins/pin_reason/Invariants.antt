use Rattle.std.proofs.Common.{ℕ, ◌<◌, slice_index}
use Rattle.flat_net.specs.Net.{node_of, pins_at}
use Rattle.certificate.specs.Reads.{Reads}
use Rattle.explaining.proofs.pins.pin_reason.Given as goal

abbrev pub invariant-loop-pin : goal.invariant-loop-pin
invariant-loop-pin l =
    (i : ℕ) → i < l.pin → Reads l.c (slice_index (pins_at (node_of l.h.net l.g.0)) i) (slice_index (pins_at (node_of l.n.net l.x.0)) i) l.p.0 l.d
