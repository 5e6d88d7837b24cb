use Rattle.std.proofs.Common.{◌≡◌, ◌++◌, map}
use Rattle.std.specs.Prelude.{All}
use Rattle.std.specs.List.{flat_map}
use Rattle.std.specs.Vec.Iter.{into_iter_items}
use Rattle.blif_text.specs.Library.{FitsPins}
use Rattle.blif_text.specs.Views.{plain_element}
use Rattle.hierarchy.specs.Drafted.{drafted}
use Rattle.hierarchy.proofs.design.drafted.push_elements.Given as goal

abbrev pub invariant-loop-element : goal.invariant-loop-element
invariant-loop-element l = record {
  draft : record l.draft { elements = l.draft.elements ++ flat_map drafted (map plain_element (into_iter_items l.element-iterator)) } ≡ record l.fn.draft { elements = l.fn.draft.elements ++ flat_map drafted (map plain_element l.fn.elements.items) };
  fits : All FitsPins (map plain_element (into_iter_items l.element-iterator));
}
