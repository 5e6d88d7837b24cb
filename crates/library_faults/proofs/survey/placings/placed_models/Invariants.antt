use Rattle.std.proofs.Common.{◌≡◌, ◌++◌, drop, map}
use Rattle.blif_text.specs.Views.{plain_element}
use Rattle.library_faults.specs.Graph.{placed_in}
use Rattle.library_faults.proofs.survey.placings.placed_models.Given as goal

abbrev pub invariant-loop-element : goal.invariant-loop-element
invariant-loop-element l = l.row.items ++ placed_in l.names.keys (map plain_element (drop l.element-index l.elements)) ≡ placed_in l.names.keys (map plain_element l.elements)
