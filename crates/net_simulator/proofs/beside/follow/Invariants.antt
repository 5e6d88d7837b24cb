use Rattle.std.proofs.Common.{◌≡◌, ◌<◌, ℕ, length, map, slice_index}
use Rattle.flat_net.specs.Nodes.{number_of}
use Rattle.net_simulator.proofs.beside.follow.Given as goal

abbrev pub invariant-loop-i : goal.invariant-loop-i
invariant-loop-i l = record {
  own : (y : ℕ) → y < l.i → slice_index l.now y ≡ slice_index l.own (slice_index (map number_of l.origins) y);
  long : length l.now ≡ length l.fn.now;
}
