use Rattle.std.proofs.Common.{◌≡◌, map, take}
use Rattle.std.specs.List.{sum_by}
use Rattle.blif_text.specs.Views.{plain_element}
use Rattle.library_faults.specs.FlatText.{capped}
use Rattle.hierarchy.specs.Private.Countable.{pins_of}
use Rattle.hierarchy.proofs.design.countable.pin_sum.Given as goal

abbrev pub invariant-loop-element : goal.invariant-loop-element
invariant-loop-element l = l.total ≡ capped (sum_by pins_of (map plain_element (take l.element-index l.elements)))
