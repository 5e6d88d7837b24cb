use Rattle.node_reads.proofs.SourceLaws.{MarkedSources}
use Rattle.node_reads.proofs.reading.note_readers.Given as goal

abbrev pub invariant-loop-y : goal.invariant-loop-y
invariant-loop-y l = MarkedSources l.n.net l.x l.y-items l.y-index l.rows
