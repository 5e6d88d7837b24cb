use Rattle.std.proofs.Common.{ℕ, List, length, slice_index, ap, ◌∙◌, arith}
use Rattle.partition_graph.specs.Places.{max_below}
use Rattle.partition_graph.proofs.BoxLaws.{most_is}
use Rattle.partition_graph.proofs.picturing.counted.Goals as goal

pub places-requires-clause-few : goal.places-requires-clause-few
places-requires-clause-few c = omega (arith, ap length c.deref.ensures.value, c.in_ok-nodes.ensures.counts.long, c.parts-parts.ensures.cert.few_parts)

pub returns : goal.returns
returns c = record {
  nodes = c.in_ok-nodes.ensures.counts;
  few_nodes = c.in_ok-nodes.ensures.few;
  few_registers = c.in_ok-registers.ensures.few;
  registers_long = c.in_ok-registers.ensures.long;
  registers = c.in_ok-registers.ensures.counts;
  places = c.in_ok-places.ensures;
  most = most_is c.args.c.now c.in_ok-nodes.nodes.items c.greatest-most.result c.in_ok-nodes.ensures.counts
      (c.greatest-most.ensures.greatest ∙ ap (λ (xs : List ℕ). max_below (length xs) (slice_index xs)) c.deref-2.ensures.value);
}
