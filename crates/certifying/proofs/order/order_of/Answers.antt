use Rattle.std.proofs.Common.{subst, arith}
use Rattle.graph.specs.Sorted.{IsSorted}
use Rattle.certifying.proofs.OrderLaws.{cycle_within}
use Rattle.certifying.proofs.order.order_of.Goals as goal

pub returns : goal.returns
returns c = λ k d l.
    let cycle = subst (IsSorted c.in_ok-graph.graph c.nodes_of.result) c.in-Cycle.is c.in_ok-order.ensures in
    omega (arith, cycle_within c.in_ok-graph.graph c.nodes_of.result c.in-Cycle.cycle.items cycle (omega (arith, c.nodes_of.ensures.count, c.in_ok-graph.ensures)) k d l, c.in_ok-graph.ensures)
