use Rattle.std.proofs.Common.{take, map}
use Rattle.blif_text.specs.Views.{plain_element}
use Rattle.hierarchy.specs.Private.Bindings.{AreLinks}
use Rattle.hierarchy.proofs.walking.bindings.links_of.Given as goal

abbrev pub invariant-loop-element : goal.invariant-loop-element
invariant-loop-element l = AreLinks l.looked.names.keys l.holds l.links.items (map plain_element (take l.element-index l.elements))
