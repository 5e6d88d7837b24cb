use Rattle.std.proofs.Common.{◌-◌, ℕ, ap}
use Rattle.sweep.specs.Private.Reaching.{voted_by}
use Rattle.sweep.proofs.ReachLaws.{table_next}
use Rattle.sweep.proofs.reaching.table_reach.Goals as goal

pub returns : goal.returns
returns c =
    table_next c.args.n.now.net (voted_by c.args.n.now.net c.args.votes.now) c.args.reach.now c.args.x.0 (c.args.x.0 - c.input_count.result) c.most_along-most.result c.one_more.result c.requires.table (ap (λ (i : ℕ). c.args.x.0 - i) c.input_count.ensures.count) c.most_along-most.ensures.most c.one_more.ensures
