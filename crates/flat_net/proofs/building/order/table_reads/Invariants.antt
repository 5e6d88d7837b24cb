use Rattle.std.proofs.Common.{◌≡◌, map}
use Rattle.std.specs.List.{range_with_len}
use Rattle.flat_net.specs.Private.TableReads.{table_row}
use Rattle.flat_net.proofs.building.order.table_reads.Given as goal

abbrev pub invariant-loop-y : goal.invariant-loop-y
invariant-loop-y l = l.graph ≡ map (table_row l.wiring) (range_with_len 0 l.y)
