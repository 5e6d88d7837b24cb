use Rattle.std.proofs.Common.{◌≡◌, ◌++◌, map, drop}
use Rattle.aag_text.specs.Aig.{plain_aig}
use Rattle.aag_design.specs.Draft.{gate_element}
use Rattle.aag_design.proofs.drafting.push_gates.Given as goal

abbrev pub invariant-loop-gate : goal.invariant-loop-gate
invariant-loop-gate l = record l.draft { elements = l.draft.elements ++ map (gate_element (plain_aig l.g.aig)) (drop l.gate-index l.gates) } ≡ record l.fn.draft { elements = l.fn.draft.elements ++ map (gate_element (plain_aig l.g.aig)) l.gates }
