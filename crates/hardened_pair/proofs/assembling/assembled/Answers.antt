use Rattle.std.proofs.Common.{◌*◌, ℕ, List, map, sym, subst, ap, ◌∙◌}
use Rattle.flat_net.specs.Net.{Net, Design, IsOrder}
use Rattle.flat_net.specs.Nodes.{number_of}
use Rattle.flat_net.proofs.PacksLaws.{net_assembled, wiring_assembled}
use Rattle.hardened_pair.specs.Private.Layouts.{net_of, partitions, voted}
use Rattle.triplicate.specs.Construction.{hardened_net}
use Rattle.hardened_pair.proofs.Assembly.{assembles}
use Rattle.hardened_pair.proofs.assembling.assembled.Goals as goal

pub make-requires-clause-wiring : goal.make-requires-clause-wiring
make-requires-clause-wiring c =
    wiring_assembled (hardened_net (net_of c.args.layout.now) (partitions c.args.layout.now) (voted c.args.layout.now)) _ (assembles (net_of c.args.layout.now) (partitions c.args.layout.now) (voted c.args.layout.now) (record { model = c.in_ok-model.model; names = c.args.names; inputs = 3 * c.input_count-inputs.result; nodes = c.args.nodes; outputs = c.in_ok-outputs.outputs; clock = c.in_ok-clock.clock }) (c.in_ok-model.ensures ∙ c.model.ensures) c.requires.names (ap (λ k. 3 * k) c.input_count-inputs.ensures.count) c.requires.nodes c.in_ok-outputs.ensures c.in_ok-clock.ensures) c.requires.valid.unordered

pub make-requires-clause-order : goal.make-requires-clause-order
make-requires-clause-order c =
    let same = net_assembled (hardened_net (net_of c.args.layout.now) (partitions c.args.layout.now) (voted c.args.layout.now)) _ (assembles (net_of c.args.layout.now) (partitions c.args.layout.now) (voted c.args.layout.now) (record { model = c.in_ok-model.model; names = c.args.names; inputs = 3 * c.input_count-inputs.result; nodes = c.args.nodes; outputs = c.in_ok-outputs.outputs; clock = c.in_ok-clock.clock }) (c.in_ok-model.ensures ∙ c.model.ensures) c.requires.names (ap (λ k. 3 * k) c.input_count-inputs.ensures.count) c.requires.nodes c.in_ok-outputs.ensures c.in_ok-clock.ensures) in
    subst (λ (h : Net). IsOrder h (map number_of c.in_ok-order.order.items)) (sym same) (subst (λ (order : List ℕ). IsOrder (hardened_net (net_of c.args.layout.now) (partitions c.args.layout.now) (voted c.args.layout.now)) order) (sym c.in_ok-order.ensures) c.requires.ordered)

pub returns : goal.returns
returns c =
    let same = net_assembled (hardened_net (net_of c.args.layout.now) (partitions c.args.layout.now) (voted c.args.layout.now)) _ (assembles (net_of c.args.layout.now) (partitions c.args.layout.now) (voted c.args.layout.now) (record { model = c.in_ok-model.model; names = c.args.names; inputs = 3 * c.input_count-inputs.result; nodes = c.args.nodes; outputs = c.in_ok-outputs.outputs; clock = c.in_ok-clock.clock }) (c.in_ok-model.ensures ∙ c.model.ensures) c.requires.names (ap (λ k. 3 * k) c.input_count-inputs.ensures.count) c.requires.nodes c.in_ok-outputs.ensures c.in_ok-clock.ensures) in
    ap (λ (d : Design). d.net) c.make.ensures ∙ same
