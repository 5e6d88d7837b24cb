use Rattle.std.proofs.Common.{take, map}
use Rattle.blif_text.specs.Views.{plain_model}
use Rattle.hierarchy.specs.Private.Bindings.{AreRows}
use Rattle.hierarchy.proofs.walking.bindings.all_links.Given as goal

abbrev pub invariant-loop-model : goal.invariant-loop-model
invariant-loop-model l = AreRows l.looked.names.keys l.holds l.rows.items (map plain_model (take l.model-index l.models))
