use Rattle.std.proofs.Common.{◌≡◌, ◌*◌, ◌≤◌, length, map}
use Rattle.std.specs.List.{range_with_len}
use Rattle.flat_net.specs.Packs.{Packs}
use Rattle.tmr_trial.specs.Designs.{node_text, nodes_drawn, state_at}
use Rattle.tmr_trial.proofs.nodes.drawn_nodes.Given as goal

abbrev pub invariant-loop-i : goal.invariant-loop-i
invariant-loop-i l = record {
  state : l.numbers.state ≡ state_at l.number l.i;
  packs : Packs (map node_text (range_with_len 0 l.i)) l.nodes (nodes_drawn l.number l.count l.i);
  pins : length l.nodes.pins.items ≤ 2 * l.i;
  registers : l.nodes.registers ≤ l.i;
}
