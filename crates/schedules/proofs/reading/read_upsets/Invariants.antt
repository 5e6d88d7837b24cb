use Rattle.std.proofs.Common.{map, drop}
use Rattle.toml.specs.View.{view}
use Rattle.schedules.proofs.reading.read_upsets.Given as goal
use Rattle.schedules.specs.Private.Reading.{HasListed}

abbrev pub invariant-loop-j : goal.invariant-loop-j
invariant-loop-j l = HasListed l.version l.h.net l.cycles (map view l.entries) (map view (drop l.j l.entries)) l.j l.seen
