use Rattle.std.proofs.Common.{◌≡◌, ◌++◌, map, drop}
use Rattle.aag_design.specs.Draft.{mark_of}
use Rattle.aag_design.proofs.drafting.marks_of.Given as goal

abbrev pub invariant-loop-l : goal.invariant-loop-l
invariant-loop-l l = l.marks.items ++ map mark_of (drop l.l-index l.literals) ≡ map mark_of l.literals
