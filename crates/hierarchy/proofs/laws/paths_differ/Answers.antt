use Rattle.hierarchy.proofs.PathsApart.{paths_apart}
use Rattle.hierarchy.proofs.laws.paths_differ.Goals as goal

pub returns : goal.returns
returns c = paths_apart
