use Rattle.std.specs.Str.{bytes_eq}
use Rattle.indexmap.specs.IndexMap.{get}
use Rattle.blif_text.specs.Views.{plain_element}
use Rattle.hierarchy.specs.Private.Walk.{AreNetsBelow}
use Rattle.hierarchy.proofs.walking.resolve.nets_within.Given as goal

abbrev pub invariant-loop-number : goal.invariant-loop-number
invariant-loop-number l = AreNetsBelow l.place (plain_element l.element) (get bytes_eq l.nets)
