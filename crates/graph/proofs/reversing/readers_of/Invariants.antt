use Rattle.graph.specs.Private.Listing.{ListsTo}
use Rattle.graph.proofs.reversing.readers_of.Given as goal

abbrev pub invariant-loop-y : goal.invariant-loop-y
invariant-loop-y l = ListsTo l.graph l.y 0 l.readers
