use Rattle.std.proofs.Common.{◌<◌, length, arith}
use Rattle.triplicate.proofs.Whole.{free_hardened_is}
use Rattle.hardened_pair.proofs.hardening.harden_free.Goals as goal

pub returns : goal.returns
returns c =
    let few : length c.args.n.now.design.net.nodes < 4294967295 = omega (arith, c.requires.few) in
    free_hardened_is c.args.n.now c.args.size 4294967295 c.in_ok-hardened.hardened few c.in_ok-hardened.ensures
