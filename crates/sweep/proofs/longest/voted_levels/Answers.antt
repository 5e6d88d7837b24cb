use Rattle.std.proofs.Common.{ℕ, ◌-◌, List, ap, ◌∙◌, subst}
use Rattle.sweep.specs.Private.Reaching.{voted_by, IsMostOut, IsMostKept}
use Rattle.sweep.proofs.ReachLaws.{levels_are}
use Rattle.sweep.proofs.longest.voted_levels.Goals as goal

pub returns : goal.returns
returns c =
    levels_are c.args.n.now.net (voted_by c.args.n.now.net c.args.votes.now) c.args.n.now.order c.nodes_of-nodes.ensures.design.order c.in_ok-reach.reach.items c.in_ok-reach.ensures c.most_out-outputs.result c.most_kept-registers.result c.saturating_sub.result (subst (λ (r : List ℕ). IsMostOut c.args.n.now.net r c.most_out-outputs.result) c.deref.ensures.value c.most_out-outputs.ensures) (subst (λ (r : List ℕ). IsMostKept c.args.n.now.net (voted_by c.args.n.now.net c.args.votes.now) r c.most_kept-registers.result) c.deref-2.ensures.value c.most_kept-registers.ensures)
    (c.saturating_sub.ensures ∙ ap (λ (m : ℕ). m - 1) c.greater.ensures)
