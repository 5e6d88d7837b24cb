use Rattle.std.proofs.Common.{◌∙◌, ℕ, List, map, sym, ap, subst}
use Rattle.flat_net.specs.Net.{IsValid}
use Rattle.flat_net.specs.Draft.{PlainDraft, AreDistinct}
use Rattle.flat_net.specs.Faults.{net_of_draft, IsFaultless, IsFaultOf}
use Rattle.aag_text.specs.Aig.{plain_aig}
use Rattle.aag_design.specs.Private.Drafting.{number_behind, IsTurnedFrom}
use Rattle.aag_design.proofs.Designs.{inputs_apart, outputs_apart, no_gate_loop, loop_is}
use Rattle.aag_design.proofs.design.design_of.Goals as goal

pub build-requires-clause-inputs : goal.build-requires-clause-inputs
build-requires-clause-inputs c = subst (λ (d : PlainDraft). AreDistinct d.inputs) (sym c.in_ok-draft.ensures) (inputs_apart (plain_aig c.args.g.now.aig) c.requires.sound)

pub build-requires-clause-outputs : goal.build-requires-clause-outputs
build-requires-clause-outputs c = subst (λ (d : PlainDraft). AreDistinct d.outputs) (sym c.in_ok-draft.ensures) (outputs_apart (plain_aig c.args.g.now.aig) c.requires.sound)

pub returns-in-Ok-clause-no_loop : goal.returns-in-Ok-clause-no_loop
returns-in-Ok-clause-no_loop c =
    no_gate_loop (plain_aig c.args.g.now.aig) c.requires.sound
    (subst IsFaultless c.in_ok-draft.ensures c.in-Ok.ensures.faultless)
    (subst IsValid (c.in-Ok.ensures.ok ∙ ap net_of_draft c.in_ok-draft.ensures) c.input_count.ensures.design.valid)

pub returns-in-Err-CombLoop-clause-fault : goal.returns-in-Err-CombLoop-clause-fault
returns-in-Err-CombLoop-clause-fault c =
    let found = subst (λ (d : PlainDraft). IsFaultOf d c.in-Err-CombLoop.field-0) c.in_ok-draft.ensures c.in-Err-CombLoop.ensures.fault in
    let comb = rw c.in-Err-CombLoop.field-0-is at found in
    loop_is (plain_aig c.args.g.now.aig) c.requires.sound c.in-Err-CombLoop.names.items c.in_ok-variables-in-Err-CombLoop.variables.items comb.0 comb.4
    (subst (λ (ns : List (List ℕ)). IsTurnedFrom (map number_behind ns) c.in_ok-variables-in-Err-CombLoop.variables.items) c.deref.ensures.value c.in_ok-variables-in-Err-CombLoop.ensures)
