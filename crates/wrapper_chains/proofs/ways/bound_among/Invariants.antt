use Rattle.std.proofs.Common.{take}
use Rattle.wrapper_chains.proofs.Handing.{AreAlike}
use Rattle.wrapper_chains.proofs.ways.bound_among.Given as goal

abbrev pub invariant-loop-name : goal.invariant-loop-name
invariant-loop-name l = AreAlike l.count (take l.name-index l.names) l.nets.items
