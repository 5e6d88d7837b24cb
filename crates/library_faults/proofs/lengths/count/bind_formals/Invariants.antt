use Rattle.std.proofs.Common.{◌≡◌, ◌*◌, length, take}
use Rattle.std.specs.List.{sum_by}
use Rattle.blif_text.specs.Kind.{is_among}
use Rattle.library_faults.specs.FlatText.{capped}
use Rattle.library_faults.specs.Private.Counts.{Adds, bound_of, limited, used}
use Rattle.library_faults.proofs.lengths.count.bind_formals.Given as goal

abbrev pub invariant-loop-formal : goal.invariant-loop-formal
invariant-loop-formal l = record {
  adds : Adds l.fn.count l.count 0 (bound_of (is_among l.fn.count.formals.keys) l.placed (take l.formal-index l.bindings));
  moved : l.moved ≡ capped (sum_by (λ b. used l.placed b.0) (take l.formal-index l.bindings));
  bytes : l.bytes ≡ capped (sum_by (λ b. used l.placed b.0 * limited (length b.0)) (take l.formal-index l.bindings));
}
