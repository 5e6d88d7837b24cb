use Rattle.std.proofs.Common.{◌≡◌, ◌&&◌, ℕ, List, length, map, slice_index, sym, ap, ◌∙◌, arith}
use Rattle.std.specs.Prelude.{◌==◌}
use Rattle.std.specs.List.{range_with_len}
use Rattle.std.proofs.lemmas.List.FromFn.{length-map-range_with_len}
use Rattle.partitioner.specs.Below.{count_below}
use Rattle.partition_graph.specs.Picture.{is_register_at}
use Rattle.partition_graph.proofs.CountLaws.{told_count}
use Rattle.partition_graph.proofs.BoxLaws.{registers_are}
use Rattle.partition_graph.proofs.picturing.register_counts.Goals as goal

pub tally-requires-clause-bits : goal.tally-requires-clause-bits
tally-requires-clause-bits c =
    ap length (c.deref-2.ensures.value ∙ c.in_ok-bits.ensures) ∙ (length-map-range_with_len (is_register_at c.args.n.now.net) 0 (length c.args.n.now.net.nodes) ∙ (sym c.requires.nodes ∙ ap length (sym (c.deref.ensures.value ∙ c.in_ok-of.ensures))))

pub returns-clause-counts : goal.returns-clause-counts
returns-clause-counts c = λ p h.
    let part : c.deref.result.now ≡ c.args.c.now.part = c.deref.ensures.value ∙ c.in_ok-of.ensures in
    let bits : c.deref-2.result.now ≡ map (is_register_at c.args.n.now.net) (range_with_len 0 (length c.deref.result.now)) =
    c.deref-2.ensures.value ∙ (c.in_ok-bits.ensures ∙ ap (λ (m : ℕ). map (is_register_at c.args.n.now.net) (range_with_len 0 m)) (sym c.requires.nodes ∙ ap length (sym part))) in
    registers_are c.args.n.now.net c.args.c.now p (slice_index c.in_ok-registers.registers.items p)
    (c.in_ok-registers.ensures.counts p (omega (arith, h, c.parts-count.ensures.count))
    ∙ (told_count c.deref.result.now c.deref-2.result.now (is_register_at c.args.n.now.net) p bits ∙ ap (λ (xs : List ℕ). count_below (length xs) (λ x. slice_index xs x == p && is_register_at c.args.n.now.net x)) part))
