use Rattle.std.proofs.Common.{◌≡◌, ◌++◌, drop}
use Rattle.aag_design.specs.Draft.{map_from, numbered}
use Rattle.aag_design.proofs.drafting.push_outputs.Given as goal

abbrev pub invariant-loop-k : goal.invariant-loop-k
invariant-loop-k l = record l.draft { outputs = l.draft.outputs ++ map_from (λ k m. numbered 111 k) l.k (drop l.k l.outputs) } ≡ record l.fn.draft { outputs = l.fn.draft.outputs ++ map_from (λ k m. numbered 111 k) 0 l.outputs }
