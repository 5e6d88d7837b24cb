use Rattle.std.proofs.Common.{◌≡◌, [], replicate, map}
use Rattle.graph.specs.Private.Packed.{row_items}
use Rattle.graph.proofs.readers.empty_rows.Given as goal

abbrev pub invariant-loop-made : goal.invariant-loop-made
invariant-loop-made l = map row_items l.rows.items ≡ replicate l.made []
