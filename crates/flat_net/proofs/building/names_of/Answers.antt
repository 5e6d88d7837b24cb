use Rattle.std.proofs.lemmas.List.{get_or-map}
use Rattle.flat_net.specs.Nodes.{number_of}
use Rattle.flat_net.proofs.building.names_of.Goals as goal

pub name-requires : goal.name-requires
name-requires c =
    rw (get_or-map number_of c.args.nets.now c.loop-net.net-index (record { 0 = 0 }) 0 c.loop-net-test.true) at (c.requires c.loop-net.net-index c.loop-net-test.true)
