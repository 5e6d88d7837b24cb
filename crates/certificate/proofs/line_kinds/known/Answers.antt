use Rattle.std.proofs.Common.{refl}
use Rattle.certificate.proofs.Names.{known_by_name}
use Rattle.certificate.proofs.line_kinds.known.Goals as goal

pub returns-then-is_node_called-clause-node : goal.returns-then-is_node_called-clause-node
returns-then-is_node_called-clause-node c =
    let called = c.if-is_node_called.ensures in
    known_by_name c.args.net.now.net c.args.name.now c.args.guess.0 c.args.line called.design.valid (called.node refl) (called.named refl)
