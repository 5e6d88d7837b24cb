-- What a design with its order shows of its fields.
use Rattle.std.specs.Prelude.{map}
use Rattle.flat_net.specs.declared.net.FlatNet.TheInside.{Inside}
use Rattle.flat_net.specs.Nodes.{number_of}
use Rattle.flat_net.specs.Net.{Design}

abbrev pub design_of : Inside → Design
design_of n = record { net = n.wiring; order = map number_of n.order.items }
