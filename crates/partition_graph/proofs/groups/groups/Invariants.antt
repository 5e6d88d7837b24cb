use Rattle.std.proofs.Common.{◌≡◌, ◌<◌, ℕ, length}
use Rattle.partition_graph.specs.Groups.{IsGroup, group_at}
use Rattle.partition_graph.specs.Private.Counting.{texts}
use Rattle.partition_graph.proofs.groups.groups.Given as goal

abbrev pub invariant-loop-p : goal.invariant-loop-p
invariant-loop-p l = record {
  long : length l.groups.items ≡ l.p;
  each : (q : ℕ) → q < l.p → IsGroup l.n.net l.c q (group_at (texts l.groups.items) q);
}
