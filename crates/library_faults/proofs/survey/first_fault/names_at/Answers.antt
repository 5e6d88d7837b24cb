use Rattle.std.proofs.Common.{rules, refl, ◌∙◌, get_or}
use Rattle.library_faults.specs.Library.{picked}
use Rattle.library_faults.proofs.Loops.{picked_one}
use Rattle.library_faults.proofs.survey.first_fault.names_at.Goals as goal

pub loop-x-init : goal.loop-x-init
unfolding picked
loop-x-init c = search rules

pub loop-x-preserved : goal.loop-x-preserved
loop-x-preserved c = c.in_ok-push.ensures.items ∙ picked_one c.as_slice-names.result.now c.loop-x.found.items c.args.models.now c.loop-x.x-index (get_or c.args.models.now c.loop-x.x-index 0) _ c.in_ok-copy.field-0 c.loop-x-test.true refl (search rules) c.index-names-x.is c.in_ok-copy.ensures c.loop-x.invariant
