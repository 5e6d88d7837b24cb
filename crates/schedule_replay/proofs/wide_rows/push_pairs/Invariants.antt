use Rattle.std.proofs.Common.{◌≡◌, ◌<◌, ℕ, true, false, None, take}
use Rattle.std.specs.Prelude.{All}
use Rattle.table_cover.specs.Words.{word_bit}
use Rattle.net_simulator.specs.Cycle.{forced_in}
use Rattle.schedule_replay.specs.Starts.{forced_to}
use Rattle.schedule_replay.proofs.wide_rows.push_pairs.Given as goal

abbrev pub invariant-loop-k : goal.invariant-loop-k
invariant-loop-k l = record {
  own : (j x : ℕ) → j < 64 → word_bit j l.mask ≡ true → forced_in j l.fn.struck.items x ≡ None → forced_in j l.struck.items x ≡ forced_to (take l.k l.pairs) x;
  others : (j x : ℕ) → word_bit j l.mask ≡ false → forced_in j l.struck.items x ≡ forced_in j l.fn.struck.items x;
  nets : (high : ℕ) → All (λ f. f.0.0 < high) l.pairs → All (λ f. f.0.0 < high) l.fn.struck.items → All (λ f. f.0.0 < high) l.struck.items;
}
