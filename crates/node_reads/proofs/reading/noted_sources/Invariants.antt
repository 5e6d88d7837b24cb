use Rattle.std.proofs.Common.{length}
use Rattle.node_reads.specs.Sources.{is_source}
use Rattle.node_reads.specs.Noting.{Lists}
use Rattle.node_reads.proofs.reading.noted_sources.Given as goal

abbrev pub invariant-loop-x : goal.invariant-loop-x
invariant-loop-x l = Lists (is_source l.n.net) l.x (length l.n.net.nodes) l.rows
