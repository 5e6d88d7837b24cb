use Rattle.std.proofs.Common.{◌≡◌, drop}
use Rattle.library_faults.specs.Flat.{actual_of}
use Rattle.hierarchy.proofs.walking.bindings.first_actual.Given as goal

abbrev pub invariant-loop-formal : goal.invariant-loop-formal
invariant-loop-formal l = actual_of (drop l.formal-index l.bindings) l.name ≡ actual_of l.bindings l.name
