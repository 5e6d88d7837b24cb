use Rattle.std.proofs.Common.{map, take}
use Rattle.flat_net.specs.DraftView.{plain_element}
use Rattle.flat_net.specs.First.{HasNone}
use Rattle.flat_net.specs.Faults.{is_mixed}
use Rattle.flat_net.proofs.building.clocking.first_mixed.Given as goal

abbrev pub invariant-loop-element : goal.invariant-loop-element
invariant-loop-element l = HasNone is_mixed (map plain_element (take l.element-index l.elements))
