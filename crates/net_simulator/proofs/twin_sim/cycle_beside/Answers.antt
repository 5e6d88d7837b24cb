use Rattle.std.proofs.Common.{arith}
use Rattle.std.proofs.lemmas.List.{length-map}
use Rattle.flat_net.specs.Nodes.{number_of}
use Rattle.net_simulator.specs.Cycle.{forced_in}
use Rattle.net_simulator.proofs.twin_sim.cycle_beside.Goals as goal

pub returns-clause-cycle : goal.returns-clause-cycle
returns-clause-cycle c = λ j n l twins met.
    c.run_beside.ensures.cycle j n c.args.own.now (forced_in j c.args.forced.now) l twins met c.start_beside.ensures.own (c.start_beside.ensures.beside c.args.layout.now.net.now.net) (λ x. c.start_beside.ensures.forced j x l)

pub returns-clause-alike : goal.returns-clause-alike
returns-clause-alike c = λ readers y l f.
    let items = c.args.layout.now.twins.origins.items in
    let beside = c.run_beside.ensures.beside c.args.own.now readers (c.start_beside.ensures.beside c.args.layout.now.net.now.net) in
    beside.same y (omega (arith, l, length-map items number_of, c.requires.room.origins, c.requires.now, c.start_beside.ensures.long, c.run_beside.ensures.long)) f
