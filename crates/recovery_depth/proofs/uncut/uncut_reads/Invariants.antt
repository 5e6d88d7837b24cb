use Rattle.std.proofs.Common.{◌≡◌, map}
use Rattle.std.specs.List.{range_with_len}
use Rattle.recovery_depth.specs.Private.Uncut.{uncut_entry}
use Rattle.recovery_depth.proofs.uncut.uncut_reads.Given as goal

abbrev pub invariant-loop-place : goal.invariant-loop-place
invariant-loop-place l = l.reads.items ≡ map (uncut_entry l.graph l.cut l.y) (range_with_len 0 l.place)
