use Rattle.std.proofs.Common.{length}
use Rattle.node_reads.specs.Sources.{reads_other}
use Rattle.node_reads.specs.Noting.{Lists}
use Rattle.node_reads.proofs.reading.noted_readers.Given as goal

abbrev pub invariant-loop-y : goal.invariant-loop-y
invariant-loop-y l = Lists (reads_other l.n.net) l.y (length l.n.net.nodes) l.rows
