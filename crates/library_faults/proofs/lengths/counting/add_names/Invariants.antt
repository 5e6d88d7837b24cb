use Rattle.std.proofs.Common.{◌≡◌, ◌||◌, ℕ, List, take}
use Rattle.blif_text.specs.Kind.{is_among}
use Rattle.library_faults.proofs.lengths.counting.add_names.Given as goal

abbrev pub invariant-loop-name : goal.invariant-loop-name
invariant-loop-name l = (name : List ℕ) → is_among l.set.keys name ≡ (is_among l.fn.set.keys name || is_among (take l.name-index l.names) name)
