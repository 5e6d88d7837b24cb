use Rattle.std.proofs.Common.{◌≡◌, map}
use Rattle.std.specs.List.{range_with_len}
use Rattle.recovery_depth.specs.Private.Copied.{is_register_copy}
use Rattle.recovery_depth.proofs.copies.register_copies.Given as goal

abbrev pub invariant-loop-g : goal.invariant-loop-g
invariant-loop-g l = l.bits.items ≡ map (is_register_copy l.h.net l.c) (range_with_len 0 l.g)
