use Rattle.std.proofs.Common.{sym, ◌∙◌, subst}
use Rattle.library_faults.specs.Found.{IsOrder}
use Rattle.library_faults.specs.Library.{IsLoop}
use Rattle.library_faults.proofs.ModelOrders.{order_of, loop_of}
use Rattle.library_faults.proofs.survey.order.order_models.Goals as goal

pub returns-in_ok-models_of-in-Order : goal.returns-in_ok-models_of-in-Order
returns-in_ok-models_of-in-Order c =
    subst (IsOrder c.args.graph.now) (sym (c.in_ok-models_of-in-Order.ensures ∙ c.deref.ensures.value)) (order_of c.args.graph.now c.requires.within c.in-Order.order.items c.requires.some (rw c.in-Order.is at c.in_ok-order.ensures))

pub returns-in_ok-models_of-in-Cycle : goal.returns-in_ok-models_of-in-Cycle
returns-in_ok-models_of-in-Cycle c =
    subst (IsLoop c.args.graph.now) (sym (c.in_ok-models_of-in-Cycle.ensures ∙ c.deref-in-Cycle.ensures.value)) (loop_of c.args.graph.now c.requires.within c.in-Cycle.cycle.items (rw c.in-Cycle.is at c.in_ok-order.ensures))
