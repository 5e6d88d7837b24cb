use Rattle.certifying.specs.Private.Found.{AreJoined}
use Rattle.certifying.proofs.joining.join_all.Given as goal

abbrev pub invariant-loop-i : goal.invariant-loop-i
invariant-loop-i l = AreJoined l.n.net l.h.net l.k l.joined.up.items l.joined.readers.items
