use Rattle.std.proofs.Common.{◌≡◌, ◌&&◌, ◌||◌, ℕ, take}
use Rattle.std.specs.Prelude.{◌==◌, nat_lt}
use Rattle.std.specs.List.{list_any}
use Rattle.flat_net.specs.Net.{node_of, pins_at}
use Rattle.partition_graph.specs.Places.{home}
use Rattle.partition_graph.specs.Private.Meeting.{is_met, AreCounted}
use Rattle.partition_graph.proofs.meeting.note_pins.Given as goal

abbrev pub invariant-loop-j : goal.invariant-loop-j
invariant-loop-j l = record {
  counted : AreCounted l.homes l.edges;
  met : (x a : ℕ) → is_met l.edges x a ≡ (is_met l.fn.edges x a || (nat_lt x l.c.original_inputs && (home l.c l.y == a && list_any (λ pin. pin == x) (take l.j (pins_at (node_of l.n.net l.y))))));
}
