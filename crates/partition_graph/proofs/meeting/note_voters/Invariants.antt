use Rattle.std.proofs.Common.{◌≡◌, ◌||◌, ℕ, take}
use Rattle.std.specs.List.{list_any}
use Rattle.partition_graph.specs.Edges.{votes_for}
use Rattle.partition_graph.specs.Private.Meeting.{is_met, AreCounted}
use Rattle.partition_graph.proofs.meeting.note_voters.Given as goal

abbrev pub invariant-loop-g : goal.invariant-loop-g
invariant-loop-g l = record {
  counted : AreCounted l.homes l.edges;
  met : (y a : ℕ) → is_met l.edges y a ≡ (is_met l.fn.edges y a || list_any (votes_for l.c y a) (take l.g l.c.roles));
}
