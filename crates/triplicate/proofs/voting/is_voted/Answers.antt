use Rattle.std.proofs.Common.{arith}
use Rattle.std.proofs.lemmas.Grind.{common_steps}
use Rattle.std.proofs.lemmas.Bool.Decides.{nat_tests}
use Rattle.triplicate.specs.Pins.{pin_is_voted}
use Rattle.triplicate.proofs.voting.is_voted.Goals as goal

pub returns-then-x-inputs : goal.returns-then-x-inputs
unfolding pin_is_voted
returns-then-x-inputs c = grind (arith, common_steps, nat_tests)

pub returns-then-of : goal.returns-then-of
unfolding pin_is_voted
returns-then-of c = grind (arith, common_steps, nat_tests)

pub returns-else-of : goal.returns-else-of
unfolding pin_is_voted
returns-else-of c = grind (arith, common_steps, nat_tests)
