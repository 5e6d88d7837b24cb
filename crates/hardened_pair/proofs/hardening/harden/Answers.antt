use Rattle.std.proofs.Common.{◌<◌, length, arith}
use Rattle.triplicate.proofs.Whole.{hardened_is}
use Rattle.hardened_pair.proofs.hardening.harden.Goals as goal

pub returns : goal.returns
returns c =
    let few : length c.args.n.now.net.nodes < 4294967295 = omega (arith, c.requires.few) in
    let built = c.in_ok-hardened.ensures in
    hardened_is c.args.n.now.net c.args.size 4294967295 built.plan c.in_ok-hardened.hardened few built.planned built.made
