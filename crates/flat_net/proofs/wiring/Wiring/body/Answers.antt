use Rattle.std.proofs.Common.{◌≡◌, length, arith, subst}
use Rattle.flat_net.specs.Net.{Net, node_of}
use Rattle.flat_net.specs.Private.Bodies.{IsBodyOf}
use Rattle.flat_net.proofs.PackedLaws.{length-inputs, length-nodes, body_kept}
use Rattle.flat_net.proofs.wiring.Wiring.body.Goals as goal

pub body_at-requires : goal.body_at-requires
body_at-requires c =
    let inputs : length c.args.self.now.inputs ≡ c.self.inside.inputs = subst (λ (n : Net). length n.inputs ≡ c.self.inside.inputs) c.self.view_is (length-inputs c.self.inside c.self.invariant) in
    let nodes : length c.args.self.now.nodes ≡ length c.self.inside.nodes.bodies.items = subst (λ (n : Net). length n.nodes ≡ length c.self.inside.nodes.bodies.items) c.self.view_is (length-nodes c.self.inside c.self.invariant) in
    rw c.deref.ensures.value (omega (arith, c.requires))

pub returns : goal.returns
returns c =
    let inputs : length c.args.self.now.inputs ≡ c.self.inside.inputs = subst (λ (n : Net). length n.inputs ≡ c.self.inside.inputs) c.self.view_is (length-inputs c.self.inside c.self.invariant) in
    subst (λ (n : Net). IsBodyOf (node_of n c.args.x.0) c.body_at.result.now) c.self.view_is (body_kept c.self.inside c.self.invariant c.args.x.0 _ (omega (arith, c.requires)) (rw c.deref.ensures.value at c.body_at.ensures))
