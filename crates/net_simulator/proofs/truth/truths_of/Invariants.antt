use Rattle.std.proofs.Common.{◌≡◌, ◌<◌, ℕ, length, take, slice_index}
use Rattle.flat_net.specs.Net.{node_of}
use Rattle.net_simulator.specs.Tables.{entry_nets}
use Rattle.net_simulator.specs.Truth.{TellsNode, all_short_pins}
use Rattle.net_simulator.proofs.truth.truths_of.Given as goal

abbrev pub invariant-loop-i : goal.invariant-loop-i
invariant-loop-i l = record {
  long : length l.words.items ≡ l.i;
  words : (k : ℕ) → k < l.i → TellsNode (node_of l.net.net (slice_index (entry_nets l.tables.entries.items) k)) (slice_index l.words.items k);
  pins : l.pins.items ≡ all_short_pins l.net.net (take l.i (entry_nets l.tables.entries.items));
}
