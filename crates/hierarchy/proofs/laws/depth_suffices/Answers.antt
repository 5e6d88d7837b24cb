use Rattle.hierarchy.proofs.DepthLaw.{depth_law}
use Rattle.hierarchy.proofs.laws.depth_suffices.Goals as goal

pub returns : goal.returns
returns c = depth_law
