use Rattle.std.proofs.Common.{◌≡◌, ◌/◌, ◌<◌, ℕ, slice_index}
use Rattle.schedule_replay.proofs.wide_rows.write_spread.Given as goal

abbrev pub invariant-loop-m : goal.invariant-loop-m
invariant-loop-m l = (k : ℕ) → k < l.m → slice_index l.spread k ≡ slice_index l.row (k / 3)
