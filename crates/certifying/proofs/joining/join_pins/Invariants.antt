use Rattle.certifying.specs.Private.Found.{AreJoined}
use Rattle.certifying.proofs.joining.join_pins.Given as goal

abbrev pub invariant-loop-j : goal.invariant-loop-j
invariant-loop-j l = AreJoined l.n.net l.h.net l.k l.joined.up.items l.joined.readers.items
