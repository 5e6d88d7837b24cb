use Rattle.std.proofs.Common.{◌≡◌, ◌++◌, map, drop}
use Rattle.flat_net.specs.Net.{name_of}
use Rattle.flat_net.specs.Nodes.{number_of}
use Rattle.reports.specs.Private.Left.{spaced}
use Rattle.reports.proofs.words.put_names.Given as goal

abbrev pub invariant-loop-x : goal.invariant-loop-x
invariant-loop-x l = l.out.items ++ spaced (map (name_of l.n.net) (map number_of (drop l.x-index l.nets))) ≡ l.fn.out.items ++ spaced (map (name_of l.n.net) (map number_of l.nets))
