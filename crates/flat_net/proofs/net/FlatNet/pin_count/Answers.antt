use Rattle.std.proofs.Common.{◌≡◌, ap, length, arith}
use Rattle.std.proofs.lemmas.List.{length-map}
use Rattle.flat_net.specs.Net.{node_of, pins_at}
use Rattle.flat_net.proofs.Ranges.{pins_at_few}
use Rattle.flat_net.proofs.net.FlatNet.pin_count.Goals as goal

pub overflow_cast-result : goal.overflow_cast-result
overflow_cast-result c =
    let few = pins_at_few c.self.inside.wiring c.args.x.0 c.self.invariant.valid.unordered.few_pins in
    let same : length c.pins_of.result.now ≡ length (pins_at (node_of c.self.inside.wiring c.args.x.0)) = simp length-map at (ap length c.pins_of.ensures) in
    omega arith
