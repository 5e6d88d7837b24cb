use Rattle.std.proofs.Common.{ℕ, ◌+◌, ◌<◌, ◌≤◌, slice_index}
use Rattle.flat_net.specs.Net.{node_of, pins_at}
use Rattle.certificate.specs.Cert.{count_of}
use Rattle.explaining.proofs.nodes.first_low.Given as goal

abbrev pub invariant-loop-pin : goal.invariant-loop-pin
invariant-loop-pin l = (i : ℕ) → i < l.pin → count_of l.c (slice_index (pins_at (node_of l.h.net l.g.0)) i) + l.more ≤ l.label
