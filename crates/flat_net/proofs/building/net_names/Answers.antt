use Rattle.flat_net.proofs.Packing.{names_of_nets}
use Rattle.flat_net.proofs.building.net_names.Goals as goal

pub returns : goal.returns
returns c = names_of_nets c.args.draft.now c.args.clock.now c.args.names.keys c.without_clock.result.keys c.requires.clock c.without_clock.ensures c.requires.names c.requires.inputs c.requires.clean
