use Rattle.std.proofs.Common.{◌≡◌, ◌++◌, drop}
use Rattle.aag_text.specs.Aig.{plain_aig}
use Rattle.aag_design.specs.Draft.{map_from, literal_element}
use Rattle.aag_design.proofs.drafting.push_literals.Given as goal

abbrev pub invariant-loop-k : goal.invariant-loop-k
invariant-loop-k l = record l.draft { elements = l.draft.elements ++ map_from (literal_element (plain_aig l.g.aig) l.letter) l.k (drop l.k l.literals) } ≡ record l.fn.draft { elements = l.fn.draft.elements ++ map_from (literal_element (plain_aig l.g.aig) l.letter) 0 l.literals }
