use Rattle.std.proofs.Common.{map, take}
use Rattle.blif_text.specs.Kind.{is_among}
use Rattle.library_faults.specs.Private.Counts.{use_of, Adds, sum_of}
use Rattle.library_faults.proofs.lengths.count.add_nets.Given as goal

abbrev pub invariant-loop-name : goal.invariant-loop-name
invariant-loop-name l = Adds l.fn.count l.count 0 (sum_of (map (use_of (is_among l.fn.count.formals.keys)) (take l.name-index l.names)))
