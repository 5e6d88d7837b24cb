use Rattle.std.proofs.Common.{◌≡◌, map, take}
use Rattle.flat_net.specs.Nodes.{number_of}
use Rattle.flat_net.specs.Private.TableReads.{read_of}
use Rattle.flat_net.proofs.building.order.put_reads.Given as goal

abbrev pub invariant-loop-pin : goal.invariant-loop-pin
invariant-loop-pin l = l.row.items ≡ map (read_of l.inputs l.past) (map number_of (take l.pin-index l.pins))
