use Rattle.std.proofs.Common.{◌∙◌, ◌++◌, ℕ, List, map, ap}
use Rattle.aag_text.specs.declared.aig.Latch.{Latch}
use Rattle.aag_text.specs.declared.aig.Gate.{Gate}
use Rattle.aag_reader.proofs.VariableLaws.{lists_join}
use Rattle.aag_reader.proofs.variables.definitions.Goals as goal

pub returns : goal.returns
returns c =
    lists_join c.args.a.now.inputs.items (map (λ (x : Latch). x.variable) c.args.a.now.latches.items) (map (λ (x : Gate). x.variable) c.args.a.now.gates.items)
    c.new-variables.result.items c.extend_from_slice.new.self.items c.push_latches.new.variables.items c.push_gates.new.variables.items c.new-variables.ensures.items
    (c.in_ok-extend_from_slice.ensures.items ∙ ap (λ (xs : List ℕ). c.new-variables.result.items ++ xs) c.deref.ensures.value)
    (c.in_ok-push_latches.ensures ∙ ap (λ (xs : List Latch). c.extend_from_slice.new.self.items ++ map (λ (x : Latch). x.variable) xs) c.deref-2.ensures.value)
    (c.in_ok-push_gates.ensures ∙ ap (λ (xs : List Gate). c.push_latches.new.variables.items ++ map (λ (x : Gate). x.variable) xs) c.deref-3.ensures.value)
