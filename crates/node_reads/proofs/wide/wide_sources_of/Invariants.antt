use Rattle.std.proofs.Common.{◌≡◌, ℕ, ◌<◌, [], length, slice_index_or}
use Rattle.node_reads.specs.Sources.{wide_sources}
use Rattle.node_reads.proofs.wide.wide_sources_of.Given as goal

abbrev pub invariant-loop-i : goal.invariant-loop-i
invariant-loop-i l = (length l.rows ≡ l.i) × ((k : ℕ) → k < l.i → slice_index_or l.rows k [] ≡ wide_sources l.n.net k)
