use Rattle.std.proofs.Common.{ℕ, ◌<◌, slice_index}
use Rattle.flat_net.specs.Net.{node_of, pins_at}
use Rattle.certificate.specs.Reads.{Reads}
use Rattle.validator.proofs.reading.pins_read.Given as goal

abbrev pub invariant-loop-j : goal.invariant-loop-j
invariant-loop-j l =
    (i : ℕ) → i < l.j → Reads l.c (slice_index (pins_at (node_of l.h.net l.g.0)) i) (slice_index (pins_at (node_of l.n.net l.x.0)) i) l.p.0 l.d
