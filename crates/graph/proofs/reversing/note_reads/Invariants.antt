use Rattle.graph.specs.Private.Listing.{ListsTo}
use Rattle.graph.proofs.reversing.note_reads.Given as goal

abbrev pub invariant-loop-place : goal.invariant-loop-place
invariant-loop-place l = ListsTo l.graph l.y l.place l.readers
