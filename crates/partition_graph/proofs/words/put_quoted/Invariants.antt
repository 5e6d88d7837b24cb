use Rattle.std.proofs.Common.{◌≡◌, ◌++◌, drop}
use Rattle.partition_graph.specs.Picture.{quoted}
use Rattle.partition_graph.proofs.words.put_quoted.Given as goal

abbrev pub invariant-loop-byte : goal.invariant-loop-byte
invariant-loop-byte l = l.out.items ++ quoted (drop l.byte-index l.name) ≡ l.fn.out.items ++ quoted l.name
