use Rattle.std.proofs.Common.{◌+◌, ◌++◌, [], ◌∷◌, subst, ap}
use Rattle.std.specs.Prelude.{slice_index}
use Rattle.flat_net.specs.Net.{Node, node_of, node_name}
use Rattle.flat_net.specs.Packs.{Packs}
use Rattle.hardened_pair.specs.Private.Made.{shifted_node}
use Rattle.hardened_pair.proofs.RoleSteps.{register_copied}
use Rattle.hardened_pair.proofs.tripling.push_register_copy.Goals as goal

pub returns : goal.returns
returns c = λ names done k.
    let same = register_copied (node_of c.args.n.now.net c.args.x.0) c.args.c c.args.pins.now c.init.result _ c.requires.register c.init.ensures (ap (λ m. slice_index c.args.pins.now 0 + m) c.number.ensures) in
    subst (λ (m : Node). Packs (names ++ node_name (shifted_node c.args.c c.args.pins.now (node_of c.args.n.now.net c.args.x.0)) ∷ []) c.push_register.new.nodes (done ++ m ∷ [])) same
    (c.in_ok-push_register.ensures.register names (node_name (shifted_node c.args.c c.args.pins.now (node_of c.args.n.now.net c.args.x.0))) done k)
