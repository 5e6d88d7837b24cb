use Rattle.std.proofs.Common.{◌≡◌, map, take, None}
use Rattle.flat_net.specs.DraftView.{plain_element}
use Rattle.flat_net.specs.Faults.{first_control}
use Rattle.flat_net.proofs.building.clocking.first_latch.Given as goal

abbrev pub invariant-loop-element : goal.invariant-loop-element
invariant-loop-element l = first_control (map plain_element (take l.element-index l.elements)) ≡ None
