use Rattle.std.proofs.Common.{◌≡◌, ◌<◌, ℕ, length, take, get_or}
use Rattle.clustering.specs.Private.Settling.{AreSettled, KeepsRoom, StandsBy}
use Rattle.clustering.proofs.settling.settled.Given as goal

abbrev pub invariant-loop-i : goal.invariant-loop-i
invariant-loop-i l = record {
  settled : AreSettled l.of.items l.holds.items;
  keeps : KeepsRoom l.room l.first l.holds.items;
  each : length l.of.items ≡ l.i;
  parts : length l.holds.items ≡ l.parts;
  stands : (j : ℕ) → j < l.i → StandsBy l.room l.parts (get_or l.wanted j 0) (take j l.of.items) (get_or l.of.items j 0);
}
