use Rattle.std.proofs.Common.{arith}
use Rattle.certificate.specs.Starts.{spread_start}
use Rattle.schedule_replay.specs.Starts.{given_starts}
use Rattle.schedule_replay.proofs.Starting.{uncounted}
use Rattle.schedule_replay.proofs.starts.starts_of.Goals as goal

pub returns-then-version-eq1-clause-original : goal.returns-then-version-eq1-clause-original
returns-then-version-eq1-clause-original c =
    let k = c.args.c.now in
    uncounted k c.args.n.now.design.net c.args.n.now.free (given_starts k c.args.n.now.free c.args.s.now) c.no_starts.result.original.items (let e = c.version.ensures in let t = c.if-version-eq1.true in omega arith) c.no_starts.ensures.original

pub returns-then-version-eq1-clause-hardened : goal.returns-then-version-eq1-clause-hardened
returns-then-version-eq1-clause-hardened c =
    let k = c.args.c.now in
    uncounted k c.args.h.now.design.net c.args.h.now.free (spread_start k (given_starts k c.args.n.now.free c.args.s.now)) c.no_starts.result.hardened.items (let e = c.version.ensures in let t = c.if-version-eq1.true in omega arith) c.no_starts.ensures.hardened
