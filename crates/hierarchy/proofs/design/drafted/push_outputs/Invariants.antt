use Rattle.std.proofs.Common.{◌≡◌, ◌++◌}
use Rattle.std.specs.Vec.Iter.{into_iter_items}
use Rattle.hierarchy.proofs.design.drafted.push_outputs.Given as goal

abbrev pub invariant-loop-name : goal.invariant-loop-name
invariant-loop-name l = record l.draft { outputs = l.draft.outputs ++ into_iter_items l.name-iterator } ≡ record l.fn.draft { outputs = l.fn.draft.outputs ++ l.fn.names.items }
