use Rattle.std.proofs.Common.{◌≡◌, ℕ, List, take}
use Rattle.std.specs.Str.{bytes_eq}
use Rattle.indexmap.specs.IndexMap.{get}
use Rattle.library_faults.specs.Flat.{actual_of}
use Rattle.wrapper_chains.proofs.bindings.bind_actuals.Given as goal

abbrev pub invariant-loop-formal : goal.invariant-loop-formal
invariant-loop-formal l = (name : List ℕ) → get bytes_eq l.actuals name ≡ actual_of (take l.formal-index l.bindings) name
