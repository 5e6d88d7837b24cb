use Rattle.std.proofs.Common.{◌≡◌, take}
use Rattle.schedules.proofs.reading.push_starts.Given as goal

abbrev pub invariant-loop-j : goal.invariant-loop-j
invariant-loop-j l = l.s ≡ record l.fn.s { starts = take l.j l.bits }
