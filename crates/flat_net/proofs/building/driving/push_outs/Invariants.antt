use Rattle.std.proofs.Common.{◌≡◌, ◌++◌, map, take}
use Rattle.flat_net.specs.Draft.{out_of}
use Rattle.flat_net.specs.DraftView.{plain_element}
use Rattle.flat_net.specs.First.{HasNone}
use Rattle.flat_net.specs.Faults.{is_driven_before}
use Rattle.flat_net.proofs.building.driving.push_outs.Given as goal

abbrev pub invariant-loop-element : goal.invariant-loop-element
invariant-loop-element l = record {
  names : l.names.keys ≡ l.initial.names.keys ++ map out_of (map plain_element (take l.element-index l.elements));
  once : HasNone (is_driven_before l.initial.names.keys) (map plain_element (take l.element-index l.elements));
}
