use Rattle.sweep.proofs.OwnPaths.{own_levels}
use Rattle.sweep.proofs.longest.levels.Goals as goal

pub returns : goal.returns
returns c = own_levels c.args.n.now.net c.in_ok-levels.levels c.in_ok-levels.ensures
