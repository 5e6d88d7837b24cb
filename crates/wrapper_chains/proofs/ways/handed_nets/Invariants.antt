use Rattle.std.proofs.Common.{take}
use Rattle.std.specs.Str.{bytes_eq}
use Rattle.indexmap.specs.IndexMap.{get}
use Rattle.wrapper_chains.specs.Private.Ways.{IsHandedOn}
use Rattle.wrapper_chains.proofs.ways.handed_nets.Given as goal

abbrev pub invariant-loop-name : goal.invariant-loop-name
invariant-loop-name l = IsHandedOn (take l.name-index l.nets) (get bytes_eq l.actuals) l.handed.items
