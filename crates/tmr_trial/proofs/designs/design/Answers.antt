use Rattle.std.proofs.Common.{◌+◌, ◌-◌, ℕ, List, map, refl, sym, subst, ap, ◌∙◌}
use Rattle.std.specs.List.{range_with_len}
use Rattle.flat_net.specs.Net.{Net, Design, IsOrder}
use Rattle.flat_net.specs.Nodes.{number_of}
use Rattle.flat_net.proofs.PacksLaws.{net_assembled, wiring_assembled}
use Rattle.tmr_trial.specs.Designs.{design_of}
use Rattle.tmr_trial.proofs.Valid.{valid, ordered}
use Rattle.tmr_trial.proofs.Making.{assembles}
use Rattle.tmr_trial.proofs.designs.design.Goals as goal

pub make-requires-clause-wiring : goal.make-requires-clause-wiring
make-requires-clause-wiring c =
    let outputs = c.in_ok-outputs.ensures ∙ ap (λ (k : ℕ). range_with_len (8 + (c.args.nodes - k)) k) c.min-last.ensures in
    wiring_assembled (design_of c.args.number c.args.nodes) _ (assembles c.args.number c.args.nodes (record { model = c.in_ok-model.model; names = c.in_ok-names.names; inputs = 8; nodes = c.in_ok-packed.packed; outputs = c.in_ok-outputs.outputs; clock = c.in_ok-clock.clock }) c.in_ok-model.ensures c.in_ok-names.ensures refl c.in_ok-packed.ensures outputs c.in_ok-clock.ensures) (valid c.args.number c.args.nodes c.requires).unordered

pub make-requires-clause-order : goal.make-requires-clause-order
make-requires-clause-order c =
    let outputs = c.in_ok-outputs.ensures ∙ ap (λ (k : ℕ). range_with_len (8 + (c.args.nodes - k)) k) c.min-last.ensures in
    let same = net_assembled (design_of c.args.number c.args.nodes) _ (assembles c.args.number c.args.nodes (record { model = c.in_ok-model.model; names = c.in_ok-names.names; inputs = 8; nodes = c.in_ok-packed.packed; outputs = c.in_ok-outputs.outputs; clock = c.in_ok-clock.clock }) c.in_ok-model.ensures c.in_ok-names.ensures refl c.in_ok-packed.ensures outputs c.in_ok-clock.ensures) in
    subst (λ (h : Net). IsOrder h (map number_of c.in_ok-order.order.items)) (sym same) (subst (λ (order : List ℕ). IsOrder (design_of c.args.number c.args.nodes) order) (sym c.in_ok-order.ensures) (ordered c.args.number c.args.nodes c.requires))

pub returns : goal.returns
returns c =
    let outputs = c.in_ok-outputs.ensures ∙ ap (λ (k : ℕ). range_with_len (8 + (c.args.nodes - k)) k) c.min-last.ensures in
    let same = net_assembled (design_of c.args.number c.args.nodes) _ (assembles c.args.number c.args.nodes (record { model = c.in_ok-model.model; names = c.in_ok-names.names; inputs = 8; nodes = c.in_ok-packed.packed; outputs = c.in_ok-outputs.outputs; clock = c.in_ok-clock.clock }) c.in_ok-model.ensures c.in_ok-names.ensures refl c.in_ok-packed.ensures outputs c.in_ok-clock.ensures) in
    ap (λ (d : Design). d.net) c.make.ensures ∙ same
