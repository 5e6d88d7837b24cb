use Rattle.std.proofs.Common.{◌≡◌, map}
use Rattle.std.specs.List.{range_with_len}
use Rattle.feedback_cut.specs.Registers.{is_register_at}
use Rattle.feedback_cut.proofs.register_nodes.registers.Given as goal

abbrev pub invariant-loop-x : goal.invariant-loop-x
invariant-loop-x l = l.bits.items ≡ map (is_register_at l.n.net) (range_with_len 0 l.x)
