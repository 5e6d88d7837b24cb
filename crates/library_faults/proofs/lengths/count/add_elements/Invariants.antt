use Rattle.std.proofs.Common.{◌≤◌, ℕ, List, map, drop}
use Rattle.std.specs.Prelude.{All}
use Rattle.blif_text.specs.Kind.{is_among}
use Rattle.blif_text.specs.Views.{plain_element}
use Rattle.library_faults.specs.Private.Counts.{Use, IsTold, fixed_with, uses_with, KeepsFormals}
use Rattle.library_faults.specs.Private.Entries.{entry_named}
use Rattle.library_faults.proofs.ElementCounts.{Leads}
use Rattle.library_faults.proofs.lengths.count.add_elements.Given as goal

abbrev pub invariant-loop-element : goal.invariant-loop-element
invariant-loop-element l = record {
  kept : KeepsFormals l.fn.count l.count;
  few : l.number ≤ l.element-index;
  leads : (limit : ℕ) (fixed : List ℕ → ℕ) (uses : List ℕ → List Use) → All (IsTold limit (entry_named l.names.keys l.positions l.counts) fixed uses) (map plain_element l.elements) → Leads l.fn.count l.count (fixed_with fixed (map plain_element (drop l.element-index l.elements))) (uses_with (is_among l.fn.count.formals.keys) uses l.number (map plain_element (drop l.element-index l.elements))) (fixed_with fixed (map plain_element l.elements)) (uses_with (is_among l.fn.count.formals.keys) uses 0 (map plain_element l.elements));
}
