use Rattle.std.proofs.Common.{◌≡◌, map, take, length}
use Rattle.certificate.specs.Starts.{role_start}
use Rattle.schedule_replay.proofs.starts.spread_start.Given as goal

abbrev pub invariant-loop-i : goal.invariant-loop-i
invariant-loop-i l = record {
  values : l.spread.items ≡ map (role_start l.c l.values) (take l.i l.c.roles);
  long : length l.spread.items ≡ l.i;
}
