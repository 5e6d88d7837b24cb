use Rattle.std.proofs.Common.{◌≡◌, map}
use Rattle.std.specs.List.{range_with_len}
use Rattle.recovery_depth.specs.Private.ChainEnds.{original_at}
use Rattle.recovery_depth.proofs.copies.originals.Given as goal

abbrev pub invariant-loop-g : goal.invariant-loop-g
invariant-loop-g l = l.originals.items ≡ map (original_at l.h.net l.c) (range_with_len 0 l.g)
