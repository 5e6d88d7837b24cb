use Rattle.std.proofs.Common.{◌≡◌, ◌+◌, ◌*◌, length}
use Rattle.schedule_replay.specs.Allowing.{AreLasts, AreApart}
use Rattle.schedule_replay.proofs.allowing.is_allowed.Given as goal

abbrev pub invariant-loop-j : goal.invariant-loop-j
invariant-loop-j l = record {
  long : length l.lasts.items ≡ 3 * (length l.c.depth + 1);
  lasts : AreLasts l.c l.s.upsets l.j l.lasts.items;
  apart : AreApart l.c l.s.upsets l.j;
}
