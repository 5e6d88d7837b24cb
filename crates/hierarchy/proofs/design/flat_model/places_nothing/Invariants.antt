use Rattle.std.proofs.Common.{◌≡◌, drop, map}
use Rattle.blif_text.specs.Views.{plain_element}
use Rattle.hierarchy.specs.Private.Alone.{places_nothing}
use Rattle.hierarchy.proofs.design.flat_model.places_nothing.Given as goal

abbrev pub invariant-loop-element : goal.invariant-loop-element
invariant-loop-element l = places_nothing (map plain_element (drop l.element-index l.elements)) ≡ places_nothing (map plain_element l.elements)
