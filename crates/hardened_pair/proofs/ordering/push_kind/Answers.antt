use Rattle.std.proofs.Common.{◌++◌, map, filter, ap, ◌∙◌, arith, List, ℕ}
use Rattle.std.specs.List.{flat_map}
use Rattle.std.proofs.lemmas.List.{take_all}
use Rattle.flat_net.specs.Nodes.{number_of}
use Rattle.flat_net.proofs.Orders.{length-order}
use Rattle.hardened_pair.specs.Private.Layouts.{net_of, partitions, voted, is_of_kind}
use Rattle.triplicate.specs.Construction.{block_nets}
use Rattle.hardened_pair.proofs.Pushing.{kept_one_more}
use Rattle.hardened_pair.proofs.ordering.push_kind.Goals as goal

pub loop-i-preserved : goal.loop-i-preserved
loop-i-preserved c = kept_one_more (block_nets (net_of c.args.layout.now) (partitions c.args.layout.now) (voted c.args.layout.now)) (is_of_kind (net_of c.args.layout.now) c.args.registers) (map number_of c.args.order.now.items) (map number_of c.loop-i.order.items) (map number_of c.push_if.new.order.items) c.args.layout.now.net.now.order c.loop-i.i c.ordered-x.result.0 c.ordered-x.ensures.ordered c.loop-i.invariant c.in_ok-push_if.ensures

pub returns : goal.returns
returns c =
    let long = length-order (net_of c.args.layout.now) c.args.layout.now.net.now.order c.nodes_of-count.ensures.design.order in
    c.loop-i.invariant ∙ ap (λ (xs : List ℕ). map number_of c.args.order.now.items ++ flat_map (block_nets (net_of c.args.layout.now) (partitions c.args.layout.now) (voted c.args.layout.now)) (filter (is_of_kind (net_of c.args.layout.now) c.args.registers) xs)) (take_all c.loop-i.i c.args.layout.now.net.now.order (omega (arith, long, c.loop-i-test.false, c.nodes_of-count.ensures.count)))
