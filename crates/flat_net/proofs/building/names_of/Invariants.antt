use Rattle.std.proofs.Common.{◌≡◌, map, take}
use Rattle.flat_net.specs.Net.{name_of}
use Rattle.flat_net.specs.Nodes.{number_of}
use Rattle.flat_net.proofs.building.names_of.Given as goal

abbrev pub invariant-loop-net : goal.invariant-loop-net
invariant-loop-net l = l.names.items ≡ map (name_of l.wiring) (map number_of (take l.net-index l.nets))
