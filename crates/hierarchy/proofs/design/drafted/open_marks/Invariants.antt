use Rattle.std.proofs.Common.{◌≡◌, ◌++◌, drop, map}
use Rattle.std.specs.List.{flat_map}
use Rattle.blif_text.specs.Views.{plain_element}
use Rattle.hierarchy.specs.Drafted.{open_mark}
use Rattle.hierarchy.proofs.design.drafted.open_marks.Given as goal

abbrev pub invariant-loop-element : goal.invariant-loop-element
invariant-loop-element l = l.marks.items ++ flat_map open_mark (map plain_element (drop l.element-index l.model.elements.items)) ≡ flat_map open_mark (map plain_element l.model.elements.items)
