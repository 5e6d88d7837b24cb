use Rattle.std.proofs.Common.{subst}
use Rattle.flat_net.specs.Net.{Design, node_of, IsTable}
use Rattle.certificate.specs.Starts.{counted}
use Rattle.schedule_replay.proofs.BesideLaws.{no_table_named}
use Rattle.schedule_replay.specs.Waves.{AreWavesOf}
use Rattle.schedule_replay.specs.Starts.{given_starts}
use Rattle.schedule_replay.proofs.Starting.{for_counted, counted_registers}
use Rattle.schedule_replay.proofs.waving.wave_values.Goals as goal

pub returns-in-Ok : goal.returns-in-Ok
returns-in-Ok c =
    for_counted (λ n e w h g u. AreWavesOf n e w h g u c.args.s.now c.in-Ok.values.items) c.args.n.now.design c.net-original.result.now c.args.h.now.design c.net-hardened.result.now c.args.c.now c.args.n.now.free c.args.h.now.free (given_starts c.args.c.now c.args.n.now.free c.args.s.now)
    c.in_ok-starts.starts.original.items c.in_ok-starts.starts.hardened.items c.net-original.ensures.net c.net-hardened.ensures.net c.net-original.ensures.marks c.net-hardened.ensures.marks c.in_ok-starts.ensures.original c.in_ok-starts.ensures.hardened c.in-Ok.ensures

pub waves_from-requires-clause-registers : goal.waves_from-requires-clause-registers
waves_from-requires-clause-registers c = λ x table.
    let n = c.args.n.now.design.net in
    let k = c.args.c.now in
    no_table_named n (counted k c.args.n.now.free) (given_starts k c.args.n.now.free c.args.s.now) c.in_ok-starts.starts.original.items (counted_registers k n c.args.n.now.free c.net-original.ensures.marks) c.in_ok-starts.ensures.original x
    (subst (λ (d : Design). IsTable (node_of d.net x)) c.net-original.ensures.net table)
