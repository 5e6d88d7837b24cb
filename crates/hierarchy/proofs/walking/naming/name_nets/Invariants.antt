use Rattle.std.proofs.Common.{◌≡◌, map, take}
use Rattle.std.specs.Str.{bytes_eq}
use Rattle.indexmap.specs.IndexMap.{get}
use Rattle.library_faults.specs.Flat.{net_text}
use Rattle.hierarchy.specs.Private.Naming.{AreNamed}
use Rattle.hierarchy.specs.Private.Walk.{net_at}
use Rattle.hierarchy.proofs.walking.naming.name_nets.Given as goal

abbrev pub invariant-loop-name : goal.invariant-loop-name
invariant-loop-name l = record {
  found : l.found.items ≡ map net_text (map (net_at l.place) (take l.name-index l.names));
  named : AreNamed (get bytes_eq l.fn.texts) (get bytes_eq l.texts) (map (net_at l.place) (take l.name-index l.names));
}
