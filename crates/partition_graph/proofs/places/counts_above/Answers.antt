use Rattle.std.proofs.Common.{length, slice_index, refl, arith}
use Rattle.partitioner.proofs.BelowLaws.{count_le}
use Rattle.std.specs.Prelude.{◌==◌, nat_lt}
use Rattle.partition_graph.proofs.PlaceLaws.{none_above, next_above}
use Rattle.partition_graph.proofs.places.counts_above.Goals as goal

pub loop-left-init : goal.loop-left-init
loop-left-init c = none_above c.args.numbers.now c.args.exactly.now (length c.args.exactly.now) _ c.in_ok-above.above.items c.requires.below c.requires.some refl refl c.in_ok-above.ensures

pub overflow_add-sum : goal.overflow_add-sum
overflow_add-sum c =
    omega (arith, c.loop-left.invariant.sum_is, count_le (length c.args.numbers.now) (λ q. nat_lt c.loop-left.left (slice_index c.args.numbers.now q)), c.requires.exactly c.loop-left.left c.loop-left.invariant.within, count_le (length c.args.numbers.now) (λ q. slice_index c.args.numbers.now q == c.loop-left.left), c.requires.few)

pub loop-left-preserved : goal.loop-left-preserved
loop-left-preserved c = next_above c.args.numbers.now c.args.exactly.now c.loop-left.left c.loop-left.sum c.loop-left.above.items _ c.requires.exactly c.loop-left-test.true c.loop-left.invariant refl
