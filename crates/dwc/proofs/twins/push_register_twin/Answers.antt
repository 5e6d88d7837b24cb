use Rattle.std.proofs.Common.{◌++◌, [], ◌∷◌, ap, subst, ◌∙◌}
use Rattle.flat_net.specs.Net.{Node, node_of, node_name}
use Rattle.flat_net.specs.Packs.{Packs}
use Rattle.dwc.specs.Guard.{twin, node_twin}
use Rattle.dwc.proofs.Making.{register_twin}
use Rattle.dwc.proofs.twins.push_register_twin.Goals as goal

pub returns : goal.returns
returns c = λ node at names done k.
    let o = node_of c.args.n.now.net c.args.x.0 in
    let same = register_twin o node c.args.c c.init.result _ at c.requires.register c.init.ensures (c.twin-pin.ensures ∙ ap (twin c.args.c) c.pin.ensures.value) in
    subst (λ (m : Node). Packs (names ++ node_name (node_twin node c.args.c) ∷ []) c.push_register.new.nodes (done ++ m ∷ [])) same
    (c.in_ok-push_register.ensures.register names (node_name (node_twin node c.args.c)) done k)
