use Rattle.std.proofs.Common.{List, ◌∙◌, ap, map, slice_index}
use Rattle.tmr_base.specs.declared.ids.NetId.{NetId}
use Rattle.flat_net.specs.Nodes.{number_of}
use Rattle.net_simulator.proofs.ChangeLaws.{begun}
use Rattle.net_simulator.proofs.twin_sim.start_beside.Goals as goal

pub returns-clause-beside : goal.returns-clause-beside
returns-clause-beside c = λ h. begun h c.args.twins.now c.force.new.marks c.args.own.now c.follow.new.now c.begin.new.changes c.args.forced.now c.force.ensures.forced
    (λ y l. c.follow.ensures.own y l ∙ ap (λ (os : List NetId). slice_index c.args.own.now (slice_index (map number_of os) y)) c.deref.ensures.value)
    c.begin.ensures.unlike c.begin.ensures.free
