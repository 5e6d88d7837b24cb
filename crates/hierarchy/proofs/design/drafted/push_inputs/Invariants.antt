use Rattle.std.proofs.Common.{◌≡◌, ◌++◌}
use Rattle.std.specs.Vec.Iter.{into_iter_items}
use Rattle.hierarchy.proofs.design.drafted.push_inputs.Given as goal

abbrev pub invariant-loop-name : goal.invariant-loop-name
invariant-loop-name l = record l.draft { inputs = l.draft.inputs ++ into_iter_items l.name-iterator } ≡ record l.fn.draft { inputs = l.fn.draft.inputs ++ l.fn.names.items }
