use Rattle.std.proofs.Common.{◌≡◌, ℕ, length, slice_get, Some}
use Rattle.certifying.proofs.joining.no_readers.Given as goal

abbrev pub invariant-loop-made : goal.invariant-loop-made
invariant-loop-made l = record { long : length l.readers.items ≡ l.made; none : (v y : ℕ) → slice_get l.readers.items v ≡ Some (Some y) → ⊥ }
