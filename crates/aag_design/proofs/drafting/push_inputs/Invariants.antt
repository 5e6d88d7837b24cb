use Rattle.std.proofs.Common.{◌≡◌, ◌++◌, drop}
use Rattle.aag_design.specs.Draft.{map_from, numbered}
use Rattle.aag_design.proofs.drafting.push_inputs.Given as goal

abbrev pub invariant-loop-i : goal.invariant-loop-i
invariant-loop-i l = record l.draft { inputs = l.draft.inputs ++ map_from (λ i v. numbered 105 i) l.i (drop l.i l.inputs) } ≡ record l.fn.draft { inputs = l.fn.draft.inputs ++ map_from (λ i v. numbered 105 i) 0 l.inputs }
