use Rattle.std.proofs.Common.{◌≡◌, ◌<◌, ℕ, take, get_or}
use Rattle.triplicate.proofs.depths.depths_of.Given as goal

abbrev pub invariant-loop-p : goal.invariant-loop-p
invariant-loop-p l = record {
  depths : l.depths.items ≡ take l.p l.extra.table.depths;
  small : (k : ℕ) → k < l.p → get_or l.extra.table.depths k 0 < 4294967296;
}
