use Rattle.std.proofs.Common.{◌≡◌, take, map}
use Rattle.graph.specs.Private.Packed.{row_items}
use Rattle.graph.proofs.readers.packed_rows.Given as goal

abbrev pub invariant-loop-row : goal.invariant-loop-row
invariant-loop-row l = l.packed ≡ map row_items (take l.row-index l.rows)
