use Rattle.std.proofs.Common.{◌≡◌, map, drop}
use Rattle.std.specs.List.{list_all}
use Rattle.blif_text.specs.Views.{plain_element}
use Rattle.wrapper_chains.specs.Bare.{is_bare_element}
use Rattle.wrapper_chains.proofs.bare_models.are_bare.Given as goal

abbrev pub invariant-loop-element : goal.invariant-loop-element
invariant-loop-element l = list_all (is_bare_element l.names.keys l.holds) (map plain_element (drop l.element-index l.elements)) ≡ list_all (is_bare_element l.names.keys l.holds) (map plain_element l.elements)
