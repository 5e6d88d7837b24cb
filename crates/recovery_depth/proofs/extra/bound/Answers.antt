use Rattle.std.proofs.Common.{sym, subst, ◌∙◌}
use Rattle.feedback_cut.specs.Inner.{inner_rows}
use Rattle.recovery_depth.specs.Private.Vertices.{IsOrdered}
use Rattle.recovery_depth.specs.Private.Uncut.{uncut_rows}
use Rattle.recovery_depth.proofs.extra.bound.Goals as goal

pub ordered-requires-clause-count : goal.ordered-requires-clause-count
ordered-requires-clause-count c = c.nodes_of-count.ensures.count ∙ sym c.in_ok-rest.ensures.nodes

pub bound_over-requires-clause-order : goal.bound_over-requires-clause-order
bound_over-requires-clause-order c =
    let rows = inner_rows c.args.n.now.net c.args.parts.now in
    subst (λ order. IsOrdered (uncut_rows rows c.args.cut.now) order) (sym c.deref.ensures.value) (subst (λ rest. IsOrdered rest c.in_ok-order.order.items) c.in_ok-rest.ensures.rows c.in_ok-order.ensures)
