use Rattle.std.proofs.Common.{◌≡◌, ◌<◌, ℕ, slice_index}
use Rattle.std.specs.Option.{unwrap_or}
use Rattle.table_cover.specs.Words.{word_bit}
use Rattle.net_simulator.specs.Settled.{marked}
use Rattle.net_simulator.proofs.cycle.set_inputs.Given as goal

abbrev pub invariant-loop-i : goal.invariant-loop-i
invariant-loop-i l = (j x : ℕ) → j < 64 → x < l.i → word_bit j (slice_index l.now x) ≡ unwrap_or (marked l.marks j x) (word_bit j (slice_index l.ins x))
