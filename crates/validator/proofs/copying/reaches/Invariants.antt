use Rattle.std.proofs.Common.{ℕ, ◌<◌, ◌≤◌, slice_index}
use Rattle.flat_net.specs.Net.{node_of, pins_at}
use Rattle.certificate.specs.Cert.{count_of}
use Rattle.validator.proofs.copying.reaches.Given as goal

abbrev pub invariant-loop-j : goal.invariant-loop-j
invariant-loop-j l = (i : ℕ) → i < l.j → count_of l.c (slice_index (pins_at (node_of l.h.net l.g.0)) i) ≤ l.label
