use Rattle.std.proofs.Common.{ap, arith}
use Rattle.certifying.proofs.labels.most_counted.Goals as goal

pub loop-j-preserved : goal.loop-j-preserved
loop-j-preserved c = λ f e below reach.
    omega (arith, c.loop-j.invariant f e below reach, c.counted.ensures f below, ap f c.pin.ensures.value, reach c.loop-j.j (omega (arith, c.loop-j-test.true, c.pin_count-j-end.ensures)), c.greater-most.ensures)
