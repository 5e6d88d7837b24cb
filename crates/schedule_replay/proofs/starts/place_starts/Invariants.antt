use Rattle.std.proofs.Common.{◌≡◌, ◌≤◌, ◌++◌, length, drop}
use Rattle.schedule_replay.specs.Starts.{placed_starts}
use Rattle.schedule_replay.proofs.starts.place_starts.Given as goal

abbrev pub invariant-loop-i : goal.invariant-loop-i
invariant-loop-i l = record {
  placed : l.values.items ++ placed_starts (drop l.i l.n.free) (drop l.next l.s.starts) ≡ placed_starts l.n.free l.s.starts;
  long : length l.values.items ≡ l.i;
  few : l.next ≤ l.i;
}
