use Rattle.recovery_depth.proofs.ChainEndLaws.{one_end}
use Rattle.recovery_depth.proofs.longest_chains.chain_ends.Goals as goal

pub loop-g-preserved : goal.loop-g-preserved
loop-g-preserved c =
    one_end c.args.places.now c.args.last.now.reaches.now c.args.depths.now c.args.last.now.is_register.now c.args.last.now.before.now c.args.last.now.none c.loop-g.g c.of-p.result c.considered.result c.loop-g.ends.items c.loop-g.invariant c.of-p.ensures.value c.of-p.ensures.range
    (rw (c.reach_at-target.ensures, c.reach_at-best.ensures, c.as_slice.ensures.value) at c.considered.ensures.other) (rw (c.reach_at-target.ensures, c.reach_at-best.ensures, c.as_slice.ensures.value) at c.considered.ensures.same)
