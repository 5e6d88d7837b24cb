use Rattle.std.proofs.Common.{◌≡◌, ◌++◌, drop}
use Rattle.library_faults.specs.Flat.{path_text}
use Rattle.hierarchy.proofs.walking.naming.put_path.Given as goal

abbrev pub invariant-loop-number : goal.invariant-loop-number
invariant-loop-number l = l.out.items ++ path_text (drop l.number-index l.path) ≡ l.fn.out.items ++ path_text l.path
