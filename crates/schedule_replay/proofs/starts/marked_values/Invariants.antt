use Rattle.std.proofs.Common.{◌+◌}
use Rattle.schedule_replay.proofs.Placing.{ListsStarts}
use Rattle.schedule_replay.proofs.starts.marked_values.Given as goal

abbrev pub invariant-loop-i : goal.invariant-loop-i
invariant-loop-i l = ListsStarts l.n.design.net l.n.free l.values (l.inputs + l.i) l.starts.items
