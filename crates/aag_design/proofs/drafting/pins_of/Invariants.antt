use Rattle.std.proofs.Common.{◌≡◌, ◌++◌, map, drop}
use Rattle.aag_text.specs.declared.aig.Literal.{Literal}
use Rattle.aag_text.specs.Aig.{plain_aig}
use Rattle.aag_design.specs.Draft.{net_name}
use Rattle.aag_design.proofs.drafting.pins_of.Given as goal

abbrev pub invariant-loop-l : goal.invariant-loop-l
invariant-loop-l l = l.pins.items ++ map (λ (m : Literal). net_name (plain_aig l.g.aig) m.variable) (drop l.l-index l.literals) ≡ map (λ (m : Literal). net_name (plain_aig l.g.aig) m.variable) l.literals
