use Rattle.std.proofs.Common.{nat_eq, take, not, ◌||◌}
use Rattle.flat_net.specs.First.{HasNone}
use Rattle.aag_text.specs.Variables.{is_among}
use Rattle.aag_reader.proofs.variables.check_known.Given as goal

abbrev pub invariant-loop-variable : goal.invariant-loop-variable
invariant-loop-variable l = HasNone (λ before v. not (nat_eq v 0 || is_among l.variables.keys v)) (take l.variable-index l.all)
