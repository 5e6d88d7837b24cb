use Rattle.node_reads.proofs.PinLaws.{Marked}
use Rattle.node_reads.proofs.reading.note_pins.Given as goal

abbrev pub invariant-loop-j : goal.invariant-loop-j
invariant-loop-j l = Marked l.n.net l.y l.j l.rows
