use Rattle.std.proofs.Common.{◌≡◌, ◌<◌, ℕ, map, slice_index}
use Rattle.flat_net.specs.Net.{node_of, pins_at}
use Rattle.flat_net.specs.Nodes.{number_of}
use Rattle.net_simulator.proofs.twins.pins_stand_for.Given as goal

abbrev pub invariant-loop-j : goal.invariant-loop-j
invariant-loop-j l = (i : ℕ) → i < l.j → slice_index (map number_of l.origins) (slice_index (pins_at (node_of l.h.net l.y.0)) i) ≡ slice_index (pins_at (node_of l.n.net l.x.0)) i
