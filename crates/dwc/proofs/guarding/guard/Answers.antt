use Rattle.std.proofs.Common.{sym, subst, arith}
use Rattle.flat_net.specs.Net.{Net}
use Rattle.dwc.specs.Guard.{guard_net}
use Rattle.dwc.specs.Making.{guard_order}
use Rattle.dwc.specs.Tells.{Guards}
use Rattle.dwc.proofs.Few.{outputs_few}
use Rattle.dwc.proofs.Making.{inputs_distinct}
use Rattle.dwc.proofs.Order.{is_order}
use Rattle.dwc.proofs.Valid.{is_valid}
use Rattle.dwc.proofs.guarding.guard.Goals as goal

pub assembled-requires-clause-outputs : goal.assembled-requires-clause-outputs
assembled-requires-clause-outputs c = omega (arith, c.requires, outputs_few c.args.n.now.net c.input_count-inputs.ensures.design.valid)

pub assembled-requires-clause-inputs : goal.assembled-requires-clause-inputs
assembled-requires-clause-inputs c =
    let n = c.args.n.now in
    let d = c.input_count-inputs.ensures.design in
    inputs_distinct (guard_net n.net) (is_valid n.net d.valid c.requires (guard_order n.net n.order) (is_order n.net d.valid n.order d.order))

pub assembled-requires-clause-valid : goal.assembled-requires-clause-valid
assembled-requires-clause-valid c =
    let n = c.args.n.now in
    let d = c.input_count-inputs.ensures.design in
    is_valid n.net d.valid c.requires (guard_order n.net n.order) (is_order n.net d.valid n.order d.order)

pub assembled-requires-clause-order : goal.assembled-requires-clause-order
assembled-requires-clause-order c =
    let n = c.args.n.now in
    let d = c.input_count-inputs.ensures.design in
    is_order n.net d.valid n.order d.order

pub returns-clause-guards : goal.returns-clause-guards
returns-clause-guards c = subst (λ (g : Net). Guards c.args.n.now.net g) (sym c.in_ok-guarded.ensures) (c.guarded_designs_tell.ensures c.args.n.now.net c.input_count-inputs.ensures.design.valid)
