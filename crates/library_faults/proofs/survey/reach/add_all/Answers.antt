use Rattle.std.proofs.Common.{subst, sym, rules}
use Rattle.library_faults.specs.Private.Growth.{Gains}
use Rattle.std.proofs.Common.{take, ◌+◌}
use Rattle.library_faults.proofs.Reaching.{gains_more}
use Rattle.library_faults.proofs.survey.reach.add_all.Goals as goal

pub loop-x-preserved : goal.loop-x-preserved
loop-x-preserved c =
    subst (Gains c.args.reached.now.keys (take (c.loop-x.x-index + 1) c.args.row.now)) (sym c.in_ok-insert.ensures.keys)
    (gains_more c.args.reached.now.keys c.args.row.now c.loop-x.reached.keys c.loop-x.x-index _ c.loop-x-test.true (search rules) c.loop-x.invariant)
