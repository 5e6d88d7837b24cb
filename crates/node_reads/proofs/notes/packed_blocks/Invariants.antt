use Rattle.std.proofs.Common.{◌≡◌, ◌*◌, min, length}
use Rattle.node_reads.specs.Private.Logged.{rows_of}
use Rattle.node_reads.proofs.notes.packed_blocks.Given as goal

abbrev pub invariant-loop-b : goal.invariant-loop-b
invariant-loop-b l = l.rows ≡ rows_of (min (l.b * 16384) (length l.tallies)) l.log
