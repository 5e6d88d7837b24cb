use Rattle.std.proofs.Common.{◌∙◌, sym, nat_eq, not, ◌||◌}
use Rattle.aag_text.specs.Variables.{is_among}
use Rattle.aag_reader.proofs.VariableLaws.{none_starts, none_goes, first_found}
use Rattle.aag_reader.proofs.variables.check_known.Goals as goal

pub loop-variable-init : goal.loop-variable-init
loop-variable-init c = none_starts (λ before v. not (nat_eq v 0 || is_among c.args.variables.now.keys v)) c.args.all.now

pub loop-variable-preserved : goal.loop-variable-preserved
loop-variable-preserved c = none_goes (λ before v. not (nat_eq v 0 || is_among c.args.variables.now.keys v)) c.args.all.now c.loop-variable.variable-index c.loop-variable-test.true c.loop-variable.invariant (sym c.is_unknown.ensures ∙ c.if-is_unknown.false)

pub returns-then-is_unknown-clause-fault : goal.returns-then-is_unknown-clause-fault
returns-then-is_unknown-clause-fault c = first_found (λ before v. not (nat_eq v 0 || is_among c.args.variables.now.keys v)) c.args.all.now c.loop-variable.variable-index c.loop-variable-test.true c.loop-variable.invariant (sym c.is_unknown.ensures ∙ c.if-is_unknown.true)
