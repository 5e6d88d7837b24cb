use Rattle.std.proofs.Common.{◌≡◌, ◌||◌, ℕ}
use Rattle.std.specs.List.{list_any, range_with_len}
use Rattle.partition_graph.specs.Edges.{reads_input}
use Rattle.partition_graph.specs.Private.Meeting.{is_met, AreCounted}
use Rattle.partition_graph.proofs.meeting.note_reads.Given as goal

abbrev pub invariant-loop-y : goal.invariant-loop-y
invariant-loop-y l = record {
  counted : AreCounted l.homes l.edges;
  met : (x a : ℕ) → is_met l.edges x a ≡ (is_met l.fn.edges x a || list_any (reads_input l.n.net l.c x a) (range_with_len 0 l.y));
}
