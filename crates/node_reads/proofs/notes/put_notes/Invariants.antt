use Rattle.std.proofs.Common.{length}
use Rattle.node_reads.proofs.LoggedLaws.{ArePut}
use Rattle.node_reads.proofs.notes.put_notes.Given as goal

abbrev pub invariant-loop-k : goal.invariant-loop-k
invariant-loop-k l = ArePut (length l.fn.places.items) l.log l.k l.places.items l.flat.items
