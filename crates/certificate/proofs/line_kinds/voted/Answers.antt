use Rattle.std.proofs.Common.{refl}
use Rattle.certificate.proofs.Names.{voted_by_name}
use Rattle.certificate.proofs.line_kinds.voted.Goals as goal

pub returns-then-is_node_called-clause-net : goal.returns-then-is_node_called-clause-net
returns-then-is_node_called-clause-net c =
    let called = c.if-is_node_called.ensures in
    voted_by_name c.args.version c.args.net.now.net c.args.name.now c.args.guess.0 c.args.line called.design.valid (called.node refl) (called.named refl)
