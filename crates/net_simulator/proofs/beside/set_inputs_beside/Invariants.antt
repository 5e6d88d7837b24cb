use Rattle.std.proofs.Common.{◌≡◌, ◌<◌, ◌≤◌, ℕ, List, length, slice_index}
use Rattle.std.specs.Option.{unwrap_or}
use Rattle.table_cover.specs.Words.{word_bit}
use Rattle.flat_net.specs.Net.{Net}
use Rattle.net_simulator.specs.Beside.{AreReadersOf, IsBeside, IsRoom}
use Rattle.net_simulator.specs.Settled.{marked}
use Rattle.net_simulator.proofs.beside.set_inputs_beside.Given as goal

abbrev pub invariant-loop-i : goal.invariant-loop-i
invariant-loop-i l = record {
  room : IsRoom (length l.now) l.twins l.changes;
  sized : length l.changes.differing.items ≡ length l.fn.changes.differing.items;
  long : length l.now ≡ length l.fn.now;
  set : (j x : ℕ) → j < 64 → x < l.i → word_bit j (slice_index l.now x) ≡ unwrap_or (marked l.marks j x) (word_bit j (slice_index l.ins x));
  others : (x : ℕ) → l.i ≤ x → slice_index l.now x ≡ slice_index l.fn.now x;
  beside : (h : Net) (own : List ℕ) → AreReadersOf h l.twins.readers → IsBeside h l.twins l.marks own l.fn.now l.fn.changes → IsBeside h l.twins l.marks own l.now l.changes;
}
