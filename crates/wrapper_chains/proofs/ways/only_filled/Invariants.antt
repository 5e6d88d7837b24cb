use Rattle.std.proofs.Common.{map}
use Rattle.blif_text.specs.Views.{plain_element}
use Rattle.wrapper_chains.proofs.OneElement.{IsOnlyBefore}
use Rattle.wrapper_chains.proofs.ways.only_filled.Given as goal

abbrev pub invariant-loop-i : goal.invariant-loop-i
invariant-loop-i l = IsOnlyBefore l.names.keys l.holds (map plain_element l.elements) l.i l.only
