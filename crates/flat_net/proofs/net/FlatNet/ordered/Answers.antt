use Rattle.std.proofs.Common.{◌≡◌, Some, subst, slice_get, rules, ap, length, map, arith}
use Rattle.std.proofs.lemmas.List.{length-map}
use Rattle.flat_net.specs.Nodes.{number_of}
use Rattle.flat_net.proofs.Orders.{length-order}
use Rattle.flat_net.specs.Net.{Design, IsDesign}
use Rattle.flat_net.proofs.Ranges.{ordered_in_range}
use Rattle.flat_net.proofs.net.FlatNet.ordered.Goals as goal

pub returns-clause-low : goal.returns-clause-low
returns-clause-low c =
    let at : slice_get c.args.self.now.order c.args.i ≡ Some c.id_at.result.0 = search rules in
    (ordered_in_range c.args.self.now c.args.i c.id_at.result.0 (subst (λ (d : Design). IsDesign d) c.self.view_is c.self.invariant) at).0

pub returns-clause-high : goal.returns-clause-high
returns-clause-high c =
    let at : slice_get c.args.self.now.order c.args.i ≡ Some c.id_at.result.0 = search rules in
    (ordered_in_range c.args.self.now c.args.i c.id_at.result.0 (subst (λ (d : Design). IsDesign d) c.self.view_is c.self.invariant) at).1

pub id_at-requires : goal.id_at-requires
id_at-requires c =
    let whole = length-order c.self.inside.wiring (map number_of c.self.inside.order.items) c.self.invariant.order in
    let nodes : length c.self.inside.wiring.nodes ≡ length c.args.self.now.net.nodes = ap (λ (d : Design). length d.net.nodes) c.self.view_is in
    rw c.deref.ensures.value (omega (arith, c.requires, length-map c.self.inside.order.items number_of))
