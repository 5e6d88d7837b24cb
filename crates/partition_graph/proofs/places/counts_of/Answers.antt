use Rattle.std.proofs.Common.{length, slice_index, ◌∙◌, arith}
use Rattle.partition_graph.proofs.CountLaws.{max_le, all_count}
use Rattle.partition_graph.proofs.places.counts_of.Goals as goal

pub overflow_add-most : goal.overflow_add-most
overflow_add-most c =
    omega (arith, c.greatest-most.ensures.greatest, max_le (length c.args.numbers.now) 4294967295 (slice_index c.args.numbers.now) (λ x h. omega (arith, c.requires.small x 0 h)))

pub returns-clause-exactly : goal.returns-clause-exactly
returns-clause-exactly c = λ m h.
    c.in_ok-exactly.ensures.counts m (omega (arith, h, c.in_ok-exactly.ensures.long)) ∙ all_count c.args.numbers.now c.deref.result.now m (c.deref.ensures.value ∙ c.in_ok-all.ensures)
