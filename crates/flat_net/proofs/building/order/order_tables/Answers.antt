use Rattle.std.proofs.Common.{◌+◌, ap, ◌∙◌, subst, map, length, arith}
use Rattle.graph.specs.Orders.{IsOrder, IsCycle}
use Rattle.flat_net.specs.Nodes.{number_of}
use Rattle.flat_net.specs.Private.TableReads.{table_rows}
use Rattle.flat_net.proofs.TableOrders.{rows_long, reached_node, order_of, loop_of}
use Rattle.flat_net.proofs.building.order.order_tables.Goals as goal

pub order_or_cycle-requires : goal.order_or_cycle-requires
order_or_cycle-requires c = omega (arith, c.node_count.ensures, ap length c.in_ok-graph.ensures, rows_long c.args.wiring.now)

pub nets_of-requires : goal.nets_of-requires
nets_of-requires c =
    let order : IsOrder (table_rows c.args.wiring.now) (length c.args.wiring.now.nodes) c.deref.result.now =
    rw c.deref.ensures.value (subst (λ g. IsOrder g (length c.args.wiring.now.nodes) c.in-Order.nodes.items) c.in_ok-graph.ensures (subst (λ k. IsOrder c.in_ok-graph.graph k c.in-Order.nodes.items) c.node_count.ensures (rw c.in-Order.is at c.in_ok-nodes.ensures))) in
    λ k h. omega (arith, c.input_count-inputs.ensures.count, c.input_count-inputs.ensures.net.few, reached_node c.args.wiring.now _ (order.reached k h))

pub returns-in-Order : goal.returns-in-Order
returns-in-Order c =
    let order : IsOrder (table_rows c.args.wiring.now) (length c.args.wiring.now.nodes) c.deref.result.now =
    rw c.deref.ensures.value (subst (λ g. IsOrder g (length c.args.wiring.now.nodes) c.in-Order.nodes.items) c.in_ok-graph.ensures (subst (λ k. IsOrder c.in_ok-graph.graph k c.in-Order.nodes.items) c.node_count.ensures (rw c.in-Order.is at c.in_ok-nodes.ensures))) in
    order_of c.args.wiring.now c.deref.result.now (map number_of c.in_ok-nets_of-in-Order.field-0.items) (c.in_ok-nets_of-in-Order.ensures ∙ ap (λ i. map (λ x. i + x) c.deref.result.now) c.input_count-inputs.ensures.count) order

pub nets_of-requires-in-Cycle : goal.nets_of-requires-in-Cycle
nets_of-requires-in-Cycle c =
    let cycle : IsCycle (table_rows c.args.wiring.now) (length c.args.wiring.now.nodes) c.deref-in-Cycle.result.now =
    rw c.deref-in-Cycle.ensures.value (subst (λ g. IsCycle g (length c.args.wiring.now.nodes) c.in-Cycle.nodes.items) c.in_ok-graph.ensures (subst (λ k. IsCycle c.in_ok-graph.graph k c.in-Cycle.nodes.items) c.node_count.ensures (rw c.in-Cycle.is at c.in_ok-nodes.ensures))) in
    λ k h. omega (arith, c.input_count-inputs.ensures.count, c.input_count-inputs.ensures.net.few, reached_node c.args.wiring.now _ (cycle.reached k h))

pub returns : goal.returns
returns c =
    let cycle : IsCycle (table_rows c.args.wiring.now) (length c.args.wiring.now.nodes) c.deref-in-Cycle.result.now =
    rw c.deref-in-Cycle.ensures.value (subst (λ g. IsCycle g (length c.args.wiring.now.nodes) c.in-Cycle.nodes.items) c.in_ok-graph.ensures (subst (λ k. IsCycle c.in_ok-graph.graph k c.in-Cycle.nodes.items) c.node_count.ensures (rw c.in-Cycle.is at c.in_ok-nodes.ensures))) in
    loop_of c.args.wiring.now c.deref-in-Cycle.result.now (map number_of c.in_ok-nets_of-in-Cycle.field-0.items) (c.in_ok-nets_of-in-Cycle.ensures ∙ ap (λ i. map (λ x. i + x) c.deref-in-Cycle.result.now) c.input_count-inputs.ensures.count) (length c.args.wiring.now.nodes) cycle
