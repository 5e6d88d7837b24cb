use Rattle.std.proofs.Common.{◌≡◌, ◌++◌, map, drop}
use Rattle.aag_text.specs.declared.aig.Literal.{Literal}
use Rattle.aag_reader.proofs.variables.push_literals.Given as goal

abbrev pub invariant-loop-literal : goal.invariant-loop-literal
invariant-loop-literal l = l.variables.items ++ map (λ (x : Literal). x.variable) (drop l.literal-index l.literals) ≡ l.fn.variables.items ++ map (λ (x : Literal). x.variable) l.literals
