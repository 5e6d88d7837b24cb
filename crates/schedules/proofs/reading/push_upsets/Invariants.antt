use Rattle.std.proofs.Common.{◌≡◌, take, map}
use Rattle.schedules.proofs.reading.push_upsets.Given as goal
use Rattle.schedules.specs.Private.Entries.{upset_of_entry}

abbrev pub invariant-loop-j : goal.invariant-loop-j
invariant-loop-j l = l.s ≡ record l.fn.s { upsets = map upset_of_entry (take l.j l.entries) }
