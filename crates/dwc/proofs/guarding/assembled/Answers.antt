use Rattle.std.proofs.Common.{◌*◌, ℕ, List, map, refl, sym, subst, ap, ◌∙◌}
use Rattle.flat_net.specs.Net.{Net, Design, IsOrder}
use Rattle.flat_net.specs.Nodes.{number_of}
use Rattle.flat_net.proofs.PacksLaws.{net_assembled, wiring_assembled}
use Rattle.dwc.specs.Guard.{guard_net}
use Rattle.dwc.proofs.Assembly.{assembles}
use Rattle.dwc.proofs.guarding.assembled.Goals as goal

pub make-requires-clause-wiring : goal.make-requires-clause-wiring
make-requires-clause-wiring c =
    let n = c.args.n.now.net in
    wiring_assembled (guard_net n) _ (assembles n c.in_ok-made.made (record { model = c.in_ok-model.model; names = c.in_ok-made.made.names; inputs = 2 * c.input_count-inputs.result; nodes = c.in_ok-made.made.nodes; outputs = c.in_ok-outputs.outputs; clock = c.in_ok-clock.clock }) c.in_ok-made.ensures refl refl (c.in_ok-model.ensures ∙ c.model.ensures) (ap (λ k. 2 * k) c.input_count-inputs.ensures.count) c.in_ok-outputs.ensures c.in_ok-clock.ensures) c.requires.valid.unordered

pub make-requires-clause-order : goal.make-requires-clause-order
make-requires-clause-order c =
    let n = c.args.n.now.net in
    let same = net_assembled (guard_net n) _ (assembles n c.in_ok-made.made (record { model = c.in_ok-model.model; names = c.in_ok-made.made.names; inputs = 2 * c.input_count-inputs.result; nodes = c.in_ok-made.made.nodes; outputs = c.in_ok-outputs.outputs; clock = c.in_ok-clock.clock }) c.in_ok-made.ensures refl refl (c.in_ok-model.ensures ∙ c.model.ensures) (ap (λ k. 2 * k) c.input_count-inputs.ensures.count) c.in_ok-outputs.ensures c.in_ok-clock.ensures) in
    subst (λ (h : Net). IsOrder h (map number_of c.in_ok-order.order.items)) (sym same) (subst (λ (order : List ℕ). IsOrder (guard_net n) order) (sym c.in_ok-order.ensures) c.requires.order)

pub returns : goal.returns
returns c =
    let n = c.args.n.now.net in
    let same = net_assembled (guard_net n) _ (assembles n c.in_ok-made.made (record { model = c.in_ok-model.model; names = c.in_ok-made.made.names; inputs = 2 * c.input_count-inputs.result; nodes = c.in_ok-made.made.nodes; outputs = c.in_ok-outputs.outputs; clock = c.in_ok-clock.clock }) c.in_ok-made.ensures refl refl (c.in_ok-model.ensures ∙ c.model.ensures) (ap (λ k. 2 * k) c.input_count-inputs.ensures.count) c.in_ok-outputs.ensures c.in_ok-clock.ensures) in
    ap (λ (d : Design). d.net) c.make.ensures ∙ same
