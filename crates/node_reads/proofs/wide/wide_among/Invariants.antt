use Rattle.std.proofs.Common.{◌≡◌, take}
use Rattle.std.specs.List.{filter}
use Rattle.node_reads.specs.Sources.{is_wide}
use Rattle.node_reads.proofs.wide.wide_among.Given as goal

abbrev pub invariant-loop-x : goal.invariant-loop-x
invariant-loop-x l = l.wide.items ≡ filter (is_wide l.n.net) (take l.x-index l.row)
