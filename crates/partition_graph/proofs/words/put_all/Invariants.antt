use Rattle.std.proofs.Common.{◌≡◌, ◌++◌, drop}
use Rattle.std.specs.List.{concat}
use Rattle.partition_graph.specs.Private.Counting.{texts}
use Rattle.partition_graph.proofs.words.put_all.Given as goal

abbrev pub invariant-loop-piece : goal.invariant-loop-piece
invariant-loop-piece l = l.out.items ++ concat (texts (drop l.piece-index l.pieces)) ≡ l.fn.out.items ++ concat (texts l.pieces)
