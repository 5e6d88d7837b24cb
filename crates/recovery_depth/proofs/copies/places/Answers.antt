use Rattle.std.proofs.Common.{length, ap, arith}
use Rattle.std.proofs.lemmas.List.FromFn.{length-map-range_with_len}
use Rattle.recovery_depth.specs.Private.ChainEnds.{place_at}
use Rattle.recovery_depth.proofs.copies.places.Goals as goal

pub make-requires-clause-few : goal.make-requires-clause-few
make-requires-clause-few c =
    omega (arith, ap length c.in_ok-of.ensures.places, length-map-range_with_len (place_at c.args.h.now.net c.args.c.now) 0 (length c.args.h.now.net.nodes), c.nodes_of-nodes.ensures.few)
