use Rattle.std.proofs.Common.{◌≡◌, take}
use Rattle.library_faults.specs.FlatText.{capped, all_spaced}
use Rattle.library_faults.proofs.lengths.flat_text.spaced_names.Given as goal

abbrev pub invariant-loop-name : goal.invariant-loop-name
invariant-loop-name l = l.total ≡ capped (all_spaced (take l.name-index l.names))
