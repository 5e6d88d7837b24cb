use Rattle.std.proofs.Common.{◌≡◌, ◌++◌, map, drop}
use Rattle.blif_text.specs.Views.{plain_element}
use Rattle.hierarchy.proofs.design.copies.copy_elements.Given as goal

abbrev pub invariant-loop-element : goal.invariant-loop-element
invariant-loop-element l = map plain_element l.copies.items ++ map plain_element (drop l.element-index l.elements) ≡ map plain_element l.elements
