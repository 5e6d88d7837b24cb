use Rattle.std.proofs.Common.{◌≡◌, ◌≤◌, ◌+◌, ◌*◌, ℕ, List, Bool, Some, length, slice_get}
use Rattle.std.specs.Prelude.{option_map}
use Rattle.tmr_base.specs.declared.ids.Upset.{Upset}
use Rattle.table_cover.specs.Words.{bits_of}
use Rattle.net_meaning.specs.Meaning.{row_at}
use Rattle.schedule_replay.specs.declared.outcome.Outcome.{Outcome}
use Rattle.schedule_replay.specs.declared.wide_rows.Progress.{Progress}
use Rattle.schedule_replay.specs.Outcome.{late_in}
use Rattle.schedule_replay.specs.Private.Telling.{TellQuiet}
use Rattle.schedule_replay.proofs.wide_comparing.compare_nodes_wide.Given as goal

abbrev pub invariant-loop-i : goal.invariant-loop-i
invariant-loop-i l = record {
  long : length l.o.items ≡ length l.fn.o.items;
  same : (j : ℕ) (a b : Outcome) → slice_get l.fn.o.items j ≡ Some a → slice_get l.o.items j ≡ Some b → b ≡ record a { late = b.late };
  bound : (j : ℕ) (a b : Outcome) → slice_get l.fn.o.items j ≡ Some a → slice_get l.o.items j ≡ Some b → b.late ≤ a.late + 3 * l.i;
  late : (j : ℕ) (a b : Outcome) (q : Progress) (tr ft : List (List Bool)) (s : List Upset) → slice_get l.fn.o.items j ≡ Some a → slice_get l.o.items j ≡ Some b → slice_get l.runs j ≡ Some q →
      option_map (bits_of j) l.r.original.last ≡ Some (row_at tr l.t) → option_map (bits_of j) l.r.hardened.last ≡ Some (row_at ft l.t) → TellQuiet l.c s l.t q.lasts.items →
      b ≡ record a { late = a.late + late_in l.n.net l.c s tr ft l.t l.i };
}
