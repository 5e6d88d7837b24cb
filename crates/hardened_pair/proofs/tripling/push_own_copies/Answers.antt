use Rattle.std.proofs.Common.{◌≡◌, ◌+◌, ◌-◌, ◌<◌, ℕ, List, All, length, sym, subst, ◌∙◌, arith}
use Rattle.std.specs.Prelude.{slice_index}
use Rattle.feedback_cut.specs.Inner.{node_pins}
use Rattle.hardened_pair.specs.Private.Layouts.{net_of, partitions, voted, first_pins_to}
use Rattle.hardened_pair.proofs.RoleSteps.{pins_few}
use Rattle.hardened_pair.proofs.tripling.push_own_copies.Goals as goal

pub push_copies-requires-clause-few : goal.push_copies-requires-clause-few
push_copies-requires-clause-few c =
    let y = c.args.x - c.input_count-inputs.result in
    let pins : c.deref.result.now ≡ first_pins_to c.args.layout.now y (length (node_pins (net_of c.args.layout.now) y)) = c.deref.ensures.value ∙ c.in_ok-first_pins.ensures in
    let own : slice_index (partitions c.args.layout.now).of y < (partitions c.args.layout.now).count = omega (arith, c.of-part.ensures.value, c.of-part.ensures.range) in
    subst (λ (ps : List ℕ). All (λ p. p + 3 < 4294967296) ps) (sym pins) (pins_few (net_of c.args.layout.now) (partitions c.args.layout.now) (voted c.args.layout.now) y c.nodes_of-nodes.ensures.design.valid (omega (arith, c.requires.range, c.input_count-inputs.ensures.count, c.if-x-inputs.false)) own c.requires.layout.room.nets)
