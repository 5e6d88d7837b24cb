use Rattle.std.proofs.Common.{◌≡◌, ◌&&◌, ◌||◌, ℕ, take}
use Rattle.std.specs.Prelude.{◌==◌}
use Rattle.std.specs.List.{list_any}
use Rattle.partition_graph.specs.Places.{outputs_place}
use Rattle.partition_graph.specs.Private.Meeting.{is_met, AreCounted}
use Rattle.partition_graph.proofs.meeting.note_outputs.Given as goal

abbrev pub invariant-loop-i : goal.invariant-loop-i
invariant-loop-i l = record {
  counted : AreCounted l.homes l.edges;
  met : (x a : ℕ) → is_met l.edges x a ≡ (is_met l.fn.edges x a || list_any (λ y. y == x && outputs_place l.c == a) (take l.i l.n.net.outputs));
}
