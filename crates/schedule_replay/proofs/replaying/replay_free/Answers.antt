use Rattle.std.proofs.Common.{subst}
use Rattle.flat_net.specs.Net.{Design, node_of, IsTable}
use Rattle.certificate.specs.Starts.{counted}
use Rattle.schedule_replay.proofs.BesideLaws.{no_table_named}
use Rattle.schedule_replay.specs.Outcome.{IsReplayOf, IsFreeReplay}
use Rattle.schedule_replay.specs.OutcomeView.{plain_outcome}
use Rattle.schedule_replay.specs.Starts.{given_starts}
use Rattle.schedule_replay.proofs.Starting.{for_counted, counted_registers}
use Rattle.schedule_replay.proofs.Unharmed.{free_unharmed}
use Rattle.schedule_replay.proofs.replaying.replay_free.Goals as goal

pub returns-in-Ok-clause-outcome : goal.returns-in-Ok-clause-outcome
returns-in-Ok-clause-outcome c =
    for_counted (λ n e w h g u. IsReplayOf n e w h g u c.args.c.now c.args.s.now (plain_outcome c.in-Ok.outcome)) c.args.n.now.design c.net-original.result.now c.args.h.now.design c.net-hardened.result.now c.args.c.now c.args.n.now.free c.args.h.now.free (given_starts c.args.c.now c.args.n.now.free c.args.s.now)
    c.in_ok-starts.starts.original.items c.in_ok-starts.starts.hardened.items c.net-original.ensures.net c.net-hardened.ensures.net c.net-original.ensures.marks c.net-hardened.ensures.marks c.in_ok-starts.ensures.original c.in_ok-starts.ensures.hardened c.in-Ok.ensures

pub returns-in-Ok-clause-masked : goal.returns-in-Ok-clause-masked
returns-in-Ok-clause-masked c = λ masks allowed.
    let is : IsFreeReplay c.args.n.now.design.net c.args.n.now.free c.args.h.now.design.net c.args.h.now.free c.args.c.now c.args.s.now (plain_outcome c.in-Ok.outcome) =
    for_counted (λ n e w h g u. IsReplayOf n e w h g u c.args.c.now c.args.s.now (plain_outcome c.in-Ok.outcome)) c.args.n.now.design c.net-original.result.now c.args.h.now.design c.net-hardened.result.now c.args.c.now c.args.n.now.free c.args.h.now.free (given_starts c.args.c.now c.args.n.now.free c.args.s.now)
    c.in_ok-starts.starts.original.items c.in_ok-starts.starts.hardened.items c.net-original.ensures.net c.net-hardened.ensures.net c.net-original.ensures.marks c.net-hardened.ensures.marks c.in_ok-starts.ensures.original c.in_ok-starts.ensures.hardened c.in-Ok.ensures in
    free_unharmed c.args.n.now.design.net c.args.n.now.free c.args.h.now.design.net c.args.h.now.free c.args.c.now c.args.s.now (plain_outcome c.in-Ok.outcome) c.cycles-cycles.ensures.plain c.requires.rows c.requires.version c.requires.nets masks is allowed

pub replay_from-requires-clause-registers : goal.replay_from-requires-clause-registers
replay_from-requires-clause-registers c = λ x table.
    let n = c.args.n.now.design.net in
    let k = c.args.c.now in
    no_table_named n (counted k c.args.n.now.free) (given_starts k c.args.n.now.free c.args.s.now) c.in_ok-starts.starts.original.items (counted_registers k n c.args.n.now.free c.net-original.ensures.marks) c.in_ok-starts.ensures.original x
    (subst (λ (d : Design). IsTable (node_of d.net x)) c.net-original.ensures.net table)
