use Rattle.std.proofs.Common.{length, ap, arith}
use Rattle.partition_graph.proofs.picturing.picture.Goals as goal

pub homes-requires-clause-few : goal.homes-requires-clause-few
homes-requires-clause-few c = omega (arith, ap length c.deref.ensures.value, c.in_ok-counts.ensures.places.long, c.parts-parts.ensures.cert.few_parts)

pub edges-requires-clause-few : goal.edges-requires-clause-few
edges-requires-clause-few c = omega (arith, ap length c.deref-3.ensures.value, c.in_ok-homes.ensures.long, c.parts-parts.ensures.cert.few_original)
