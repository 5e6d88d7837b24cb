use Rattle.std.proofs.Common.{arith}
use Rattle.partitioner.proofs.GainLaws.{least_lost}
use Rattle.partitioner.proofs.costs.gains.least_loss.Goals as goal

pub returns-clause-least : goal.returns-clause-least
returns-clause-least c = λ n p i q is. omega (arith, c.from.ensures, c.from-2.ensures, least_lost n p i q c.args.gains.now is)
