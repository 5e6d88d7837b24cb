use Rattle.std.proofs.Common.{◌≡◌, ◌++◌, drop}
use Rattle.aag_design.specs.Draft.{map_from, latch_element}
use Rattle.aag_design.proofs.drafting.push_latches.Given as goal

abbrev pub invariant-loop-j : goal.invariant-loop-j
invariant-loop-j l = record l.draft { elements = l.draft.elements ++ map_from latch_element l.j (drop l.j l.latches) } ≡ record l.fn.draft { elements = l.fn.draft.elements ++ map_from latch_element 0 l.latches }
