use Rattle.std.proofs.Common.{◌≡◌, ◌++◌, List, map, length}
use Rattle.std.specs.Prelude.{flat_map}
use Rattle.std.specs.Str.{bytes_eq}
use Rattle.indexmap.specs.IndexMap.{get}
use Rattle.blif_text.specs.Views.{plain_element}
use Rattle.library_faults.specs.Flat.{NetElement, named}
use Rattle.hierarchy.specs.Clash.{nets_of}
use Rattle.hierarchy.specs.Private.Naming.{AreNamed}
use Rattle.hierarchy.specs.Private.Walk.{coming, IsWalking, library_of}
use Rattle.hierarchy.proofs.walking.named_element.name_elements.Given as goal

abbrev pub invariant-elements : goal.invariant-elements
invariant-elements l = record {
  walking : IsWalking (library_of l.ready) l.walk;
  passed : List NetElement;
  split : passed ++ coming (library_of l.ready) l.walk ≡ coming (library_of l.ready) l.fn.walk;
  found : map plain_element l.elements.items ≡ map named passed;
  named : AreNamed (get bytes_eq l.fn.texts) (get bytes_eq l.texts) (flat_map nets_of passed);
}

abbrev pub decreases-elements : goal.decreases-elements
decreases-elements l = length (coming (library_of l.ready) l.walk)
