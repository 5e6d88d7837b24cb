use Rattle.std.proofs.Common.{◌≡◌, map}
use Rattle.std.specs.List.{range_with_len}
use Rattle.recovery_depth.specs.Private.Uncut.{uncut_row}
use Rattle.recovery_depth.proofs.uncut.uncut.Given as goal

abbrev pub invariant-loop-y : goal.invariant-loop-y
invariant-loop-y l = l.rest ≡ map (uncut_row l.graph l.cut) (range_with_len 0 l.y)
