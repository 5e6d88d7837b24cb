use Rattle.std.proofs.Common.{◌≡◌, ◌∙◌, sym, length, map, arith, subst}
use Rattle.flat_net.specs.Net.{Net, node_of, pins_at}
use Rattle.flat_net.specs.Nodes.{number_of}
use Rattle.flat_net.proofs.PackedLaws.{length-inputs, length-nodes, ends_fit, part_kept, pins_at_kept}
use Rattle.flat_net.proofs.wiring.Wiring.pins_of.Goals as goal

pub part_at-requires : goal.part_at-requires
part_at-requires c =
    let inputs : length c.args.self.now.inputs ≡ c.self.inside.inputs = subst (λ (n : Net). length n.inputs ≡ c.self.inside.inputs) c.self.view_is (length-inputs c.self.inside c.self.invariant) in
    let nodes : length c.args.self.now.nodes ≡ length c.self.inside.nodes.bodies.items = subst (λ (n : Net). length n.nodes ≡ length c.self.inside.nodes.bodies.items) c.self.view_is (length-nodes c.self.inside c.self.invariant) in
    let part = part_kept c.self.inside c.self.invariant c.args.x.0 (omega (arith, c.requires)) (omega (arith, c.requires)) in
    rw (c.deref.ensures.value, c.deref-2.ensures.value) (record {
      within = omega (arith, c.requires, ends_fit c.self.inside c.self.invariant);
      order = part.0;
      end = part.1;
    })

pub returns : goal.returns
returns c =
    let inputs : length c.args.self.now.inputs ≡ c.self.inside.inputs = subst (λ (n : Net). length n.inputs ≡ c.self.inside.inputs) c.self.view_is (length-inputs c.self.inside c.self.invariant) in
    let nodes : length c.args.self.now.nodes ≡ length c.self.inside.nodes.bodies.items = subst (λ (n : Net). length n.nodes ≡ length c.self.inside.nodes.bodies.items) c.self.view_is (length-nodes c.self.inside c.self.invariant) in
    let pins = pins_at_kept c.self.inside c.self.invariant c.args.x.0 (omega (arith, c.requires)) (omega (arith, c.requires)) in
    subst (λ (n : Net). map number_of c.part_at.result.now ≡ pins_at (node_of n c.args.x.0)) c.self.view_is (rw (c.deref.ensures.value, c.deref-2.ensures.value) at c.part_at.ensures ∙ sym pins)
