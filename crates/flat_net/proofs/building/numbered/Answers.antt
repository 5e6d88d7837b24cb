use Rattle.std.proofs.Common.{◌≡◌, ◌≢◌, ℕ, List, not, rules, subst}
use Rattle.flat_net.specs.Draft.{PlainDraft}
use Rattle.flat_net.specs.First.{HasNone, IsFirst}
use Rattle.flat_net.specs.declared.fault.NetFault.TheVariants.{Memory, Undriven}
use Rattle.flat_net.specs.Faults.{is_among, is_no_net, draft_reads, IsFaultOf}
use Rattle.flat_net.proofs.Firsts.{none_append}
use Rattle.flat_net.proofs.Sound.{names_few}
use Rattle.flat_net.proofs.Causes.{undriven_fault, undriven_output}
use Rattle.flat_net.proofs.building.numbered.Goals as goal

pub wire-requires-clause-names : goal.wire-requires-clause-names
wire-requires-clause-names c = rw c.requires.names (names_few c.args.draft.now c.requires.nets)

pub push_pins-requires : goal.push_pins-requires
push_pins-requires c = rw c.requires.names (names_few c.args.draft.now c.requires.nets)

pub returns-clause-driven : goal.returns-clause-driven
returns-clause-driven c =
    let reads : HasNone (is_no_net c.args.names.now.keys) (draft_reads c.args.draft.now) = subst (λ (d : PlainDraft). HasNone (is_no_net c.args.names.now.keys) (draft_reads d)) c.draft.view_is (rw c.deref.ensures.value at c.in_ok-wires.ensures.wires.nets) in
    let outputs : HasNone (is_no_net c.args.names.now.keys) c.args.draft.now.outputs = search rules in
    rw (← c.requires.names) (none_append (λ name. not (is_among c.args.names.now.keys name)) (draft_reads c.args.draft.now) c.args.draft.now.outputs reads outputs)

pub returns-in_err-push_pins-clause-fault : goal.returns-in_err-push_pins-clause-fault
returns-in_err-push_pins-clause-fault c =
    let reads : HasNone (is_no_net c.args.names.now.keys) (draft_reads c.args.draft.now) = subst (λ (d : PlainDraft). HasNone (is_no_net c.args.names.now.keys) (draft_reads d)) c.draft.view_is (rw c.deref.ensures.value at c.in_ok-wires.ensures.wires.nets) in
    let found : c.in_err-push_pins.field-0.0 ≢ Memory → (name : List ℕ) × IsFirst (is_no_net c.args.names.now.keys) c.args.draft.now.outputs name × (c.in_err-push_pins.field-0.0 ≡ Undriven name) = search rules in
    let told : IsFaultOf c.args.draft.now c.in_err-push_pins.field-0.0 = undriven_fault c.args.draft.now c.in_err-push_pins.field-0.0 c.requires.once c.requires.one_clock c.requires.clean (undriven_output c.args.draft.now c.in_err-push_pins.field-0.0 c.args.names.now.keys c.requires.names reads found) in
    search rules
