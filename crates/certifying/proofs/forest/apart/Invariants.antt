use Rattle.std.proofs.Common.{◌≡◌, ℕ, ◌<◌, length, get_or}
use Rattle.certifying.proofs.forest.apart.Given as goal

abbrev pub invariant-loop-i : goal.invariant-loop-i
invariant-loop-i l = record { long : length l.up.items ≡ l.i; own : (k : ℕ) → k < l.i → get_or l.up.items k 0 ≡ k }
