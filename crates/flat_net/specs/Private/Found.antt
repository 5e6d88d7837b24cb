-- What a search over tables ends with.
use Rattle.std.specs.Prelude.{map}
use Rattle.flat_net.specs.declared.building.order.Found.{Found}
use Rattle.flat_net.specs.declared.building.order.Found.TheVariants.{Order, Loop}
use Rattle.flat_net.specs.Nodes.{number_of}
use Rattle.flat_net.specs.Net.{Net, IsOrder}
use Rattle.flat_net.specs.Loop.{IsLoop}

-- an order of all nodes, or a loop of tables
abbrev pub IsFound : Net → Found → Type 0
IsFound n (Order order) = IsOrder n (map number_of order.items)
IsFound n (Loop tables) = IsLoop n (map number_of tables.items)
