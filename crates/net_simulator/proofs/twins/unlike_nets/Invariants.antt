use Rattle.std.proofs.Common.{◌≡◌, ◌<◌, ℕ, length, map, slice_index}
use Rattle.flat_net.specs.Net.{node_of}
use Rattle.flat_net.specs.Nodes.{number_of}
use Rattle.net_meaning.specs.Meaning.{bit}
use Rattle.net_simulator.specs.Beside.{IsUnlikeOnly}
use Rattle.net_simulator.proofs.twins.unlike_nets.Given as goal

abbrev pub invariant-loop-y : goal.invariant-loop-y
invariant-loop-y l = record {
  long : length l.unlike.items ≡ l.y;
  alike : (y : ℕ) → y < l.y → IsUnlikeOnly l.n.net (node_of l.h.net y) (map number_of l.origins) (slice_index (map number_of l.origins) y) (bit l.unlike.items y);
}
