use Rattle.std.proofs.Common.{ℕ, Bool, List, ◌<◌, map, slice_index, sym, subst, arith}
use Rattle.flat_net.specs.Net.{net_count, node_of}
use Rattle.flat_net.specs.Nodes.{number_of}
use Rattle.net_meaning.specs.Meaning.{bit}
use Rattle.net_simulator.specs.Beside.{IsUnlikeOnly}
use Rattle.net_simulator.proofs.TwinLaws.{origin_within, one_bit_more}
use Rattle.net_simulator.proofs.twins.unlike_nets.Goals as goal

pub is_unlike-requires-clause-x : goal.is_unlike-requires-clause-x
is_unlike-requires-clause-x c = subst (λ (k : ℕ). k < net_count c.args.n.now.net) (sym c.origin_at.ensures) (origin_within c.args.origins.now (net_count c.args.n.now.net) c.loop-y.y c.requires.range (omega arith))

pub loop-y-preserved : goal.loop-y-preserved
loop-y-preserved c =
    let origins : List ℕ = map number_of c.args.origins.now in
    let P : ℕ → Bool → Type 0 = λ y b. IsUnlikeOnly c.args.n.now.net (node_of c.args.h.now.net y) origins (slice_index origins y) b in
    record {
      long = omega (arith, c.loop-y.invariant.long, c.in_ok-push.ensures.len);
      alike = λ y l. subst (λ (bs : List Bool). IsUnlikeOnly c.args.n.now.net (node_of c.args.h.now.net y) origins (slice_index origins y) (bit bs y)) (sym c.in_ok-push.ensures.items)
          (one_bit_more P c.loop-y.unlike.items c.loop-y.y c.is_unlike.result c.loop-y.invariant.long c.loop-y.invariant.alike
          (subst (λ (x : ℕ). IsUnlikeOnly c.args.n.now.net (node_of c.args.h.now.net c.loop-y.y) origins x c.is_unlike.result) c.origin_at.ensures c.is_unlike.ensures) y l);
    }
