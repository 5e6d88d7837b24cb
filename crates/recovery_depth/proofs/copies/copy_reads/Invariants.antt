use Rattle.std.proofs.Common.{◌≡◌, map}
use Rattle.std.specs.List.{range_with_len}
use Rattle.recovery_depth.specs.Private.Copied.{copied_row}
use Rattle.recovery_depth.proofs.copies.copy_reads.Given as goal

abbrev pub invariant-loop-g : goal.invariant-loop-g
invariant-loop-g l = l.graph ≡ map (copied_row l.h.net l.c) (range_with_len 0 l.g)
