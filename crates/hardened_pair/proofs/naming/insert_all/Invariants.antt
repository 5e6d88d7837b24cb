use Rattle.std.proofs.Common.{◌≡◌, ◌++◌}
use Rattle.std.specs.Vec.Iter.{into_iter_items}
use Rattle.hardened_pair.proofs.naming.insert_all.Given as goal

abbrev pub invariant-loop-name : goal.invariant-loop-name
invariant-loop-name l = l.names.keys ++ into_iter_items l.name-iterator ≡ l.fn.names.keys ++ l.fn.waiting.items
