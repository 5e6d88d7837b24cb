use Rattle.std.proofs.Common.{ℕ, List, refl, subst, arith}
use Rattle.std.proofs.lemmas.Option.{get_or_from_slice_get}
use Rattle.flat_net.proofs.Orders.{length-order}
use Rattle.sweep.specs.Private.Reaching.{voted_by, IsNextReach}
use Rattle.sweep.proofs.ReachLaws.{reached_none, reached_more}
use Rattle.sweep.proofs.reaching.reached.Goals as goal

pub loop-i-init : goal.loop-i-init
loop-i-init c = reached_none c.args.n.now.net (voted_by c.args.n.now.net c.args.votes.now) c.args.n.now.order c.in_ok-reach.reach.items c.in_ok-reach.ensures

pub loop-i-preserved : goal.loop-i-preserved
loop-i-preserved c =
    reached_more c.args.n.now.net (voted_by c.args.n.now.net c.args.votes.now) c.args.n.now.order c.ordered-x.ensures.order c.loop-i.i c.ordered-x.result.0 c.next_reach-next.result c.loop-i.reach.items _ c.loop-i.invariant (omega (arith, c.loop-i-test.true, c.nodes_of-count.ensures.count, length-order c.args.n.now.net c.args.n.now.order c.ordered-x.ensures.order))
    (get_or_from_slice_get c.args.n.now.order c.loop-i.i c.ordered-x.result.0 0 c.ordered-x.ensures.ordered) (subst (λ (r : List ℕ). IsNextReach c.args.n.now.net (voted_by c.args.n.now.net c.args.votes.now) r c.ordered-x.result.0 c.next_reach-next.result) c.deref.ensures.value c.next_reach-next.ensures) refl
