use Rattle.std.proofs.Common.{◌≡◌, ℕ, List, Bool, Some, length, slice_get}
use Rattle.std.specs.Prelude.{option_map}
use Rattle.table_cover.specs.Words.{bits_of}
use Rattle.net_meaning.specs.Meaning.{row_at}
use Rattle.schedule_replay.specs.declared.outcome.Outcome.{Outcome}
use Rattle.schedule_replay.specs.Outcome.{outputs_in}
use Rattle.schedule_replay.specs.Wide.{HasNoted, Notes}
use Rattle.schedule_replay.proofs.wide_comparing.compare_outputs_wide.Given as goal

abbrev pub invariant-loop-i : goal.invariant-loop-i
invariant-loop-i l = record {
  long : length l.o.items ≡ length l.fn.o.items;
  bounded : (j : ℕ) (a b : Outcome) → slice_get l.fn.o.items j ≡ Some a → slice_get l.o.items j ≡ Some b → HasNoted l.i a b;
  counts : (j : ℕ) (a b : Outcome) (tr ft : List (List Bool)) → slice_get l.fn.o.items j ≡ Some a → slice_get l.o.items j ≡ Some b → option_map (bits_of j) l.original.last ≡ Some (row_at tr l.t) → option_map (bits_of j) l.hardened.last ≡ Some (row_at ft l.t) →
      Notes (outputs_in l.n.net l.h.net tr ft l.t l.i) a b;
}
