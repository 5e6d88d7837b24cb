use Rattle.std.proofs.Common.{◌≡◌, map}
use Rattle.std.specs.List.{range_with_len}
use Rattle.partition_graph.specs.Picture.{is_register_at}
use Rattle.partition_graph.proofs.picturing.register_bits.Given as goal

abbrev pub invariant-loop-x : goal.invariant-loop-x
invariant-loop-x l = l.bits.items ≡ map (is_register_at l.n.net) (range_with_len 0 l.x)
