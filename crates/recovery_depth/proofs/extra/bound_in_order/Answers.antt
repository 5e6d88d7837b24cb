use Rattle.std.proofs.Common.{sym, subst}
use Rattle.feedback_cut.specs.Inner.{inner_rows}
use Rattle.recovery_depth.specs.Private.Vertices.{IsOrdered}
use Rattle.recovery_depth.specs.Private.Uncut.{uncut_rows}
use Rattle.recovery_depth.proofs.UncutLaws.{uncut_ordered}
use Rattle.recovery_depth.proofs.extra.bound_in_order.Goals as goal

pub bound_over-requires-clause-order : goal.bound_over-requires-clause-order
bound_over-requires-clause-order c =
    let rows = inner_rows c.args.n.now.net c.args.parts.now in
    let cut = c.args.found.now.cut in
    subst (λ order. IsOrdered (uncut_rows rows cut) order) (sym c.deref.ensures.value)
    (uncut_ordered c.args.n.now.net c.args.parts.now cut c.nodes_of-nodes.ensures.design.valid c.requires.cut c.args.found.now.order.items c.requires.order)
