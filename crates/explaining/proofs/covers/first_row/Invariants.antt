use Rattle.std.proofs.Common.{◌≡◌, ℕ, ◌<◌, slice_get}
use Rattle.explaining.proofs.covers.first_row.Given as goal

abbrev pub invariant-loop-row : goal.invariant-loop-row
invariant-loop-row l = (m : ℕ) → m < l.row → slice_get l.is.rows m ≡ slice_get l.wanted.rows m
