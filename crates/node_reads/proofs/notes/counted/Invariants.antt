use Rattle.std.proofs.Common.{◌≡◌, length, take}
use Rattle.node_reads.specs.Private.Logged.{row_of}
use Rattle.node_reads.proofs.notes.counted.Given as goal

abbrev pub invariant-loop-k : goal.invariant-loop-k
invariant-loop-k l = l.count ≡ length (row_of (take l.k l.log) l.x)
