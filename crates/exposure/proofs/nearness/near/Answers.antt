use Rattle.std.proofs.Common.{arith}
use Rattle.exposure.proofs.Bounds.{near_fits}
use Rattle.exposure.proofs.nearness.near.Goals as goal

pub overflow_mul-result-4 : goal.overflow_mul-result-4
overflow_mul-result-4 c =
    let fits = near_fits c.from-first.result c.from-second.result c.from-third.result c.from.result (omega (arith, c.from-first.ensures, c.ranges.first.fits)) (omega (arith, c.from-second.ensures, c.ranges.second.fits)) (omega (arith, c.from-third.ensures, c.ranges.third.fits)) (omega (arith, c.from.ensures, c.ranges.depth.fits)) in
    omega (arith, fits)
