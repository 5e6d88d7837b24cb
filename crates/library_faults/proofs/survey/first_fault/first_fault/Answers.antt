use Rattle.std.proofs.Common.{◌≡◌, ◌∙◌, sym, ap, true, false, nat_eq, map, None}
use Rattle.std.specs.List.{list_any}
use Rattle.blif_text.specs.Views.{plain_model, plain_element}
use Rattle.library_faults.specs.Graph.{graph, Reached}
use Rattle.library_faults.specs.Faults.{model_fault, elements_fault}
use Rattle.library_faults.proofs.FirstFaults.{faultless_none, faultless_more, faultless_all, first_here, answered}
use Rattle.library_faults.proofs.survey.first_fault.first_fault.Goals as goal
use Rattle.library_faults.proofs.survey.first_fault.first_fault.Goals.{then-contains+in_ok-fault+in_default, else-contains}

pub loop-x-init : goal.loop-x-init
loop-x-init c = faultless_none (map plain_model c.args.models.now)

pub returns-in-Some : goal.returns-in-Some
returns-in-Some c =
    let member : list_any (nat_eq c.loop-x.x-counter) c.args.reached.now.keys ≡ true = sym c.contains.ensures ∙ c.if-contains.true in
    first_here c.args.models.now c.loop-x.x-counter c.index-models-x.result c.in-Some.fault c.loop-x-test.true c.index-models-x.is c.loop-x.invariant
    ((c.requires.reached c.loop-x.x-counter).0 member)
    (answered c.args.models.now c.args.names.now.keys c.args.ports.now c.index-models-x.result c.in_ok-fault.field-0 c.requires.names c.requires.ports (c.in_ok-fault.ensures ∙ ap (λ es. elements_fault c.args.names.now.keys c.args.ports.now (map plain_element es)) c.deref.ensures.value) ∙ c.in-Some.is)

pub loop-x-preserved : goal.loop-x-preserved
loop-x-preserved c = faultless_more c.args.models.now c.loop-x.x-counter c.index-models-x.result c.loop-x-test.true c.index-models-x.is c.loop-x.invariant here
  where
    here : Reached (graph (map plain_model c.args.models.now)) c.loop-x.x-counter → model_fault (map plain_model c.args.models.now) (plain_model c.index-models-x.result) ≡ None
    here reached = elim c.if-contains.branch [
      | then-contains+in_ok-fault+in_default w ↦ answered c.args.models.now c.args.names.now.keys c.args.ports.now c.index-models-x.result w.in_ok-fault.field-0 c.requires.names c.requires.ports (w.in_ok-fault.ensures ∙ ap (λ es. elements_fault c.args.names.now.keys c.args.ports.now (map plain_element es)) w.deref.ensures.value) ∙ w.in_default.is
      | else-contains w ↦ let member : list_any (nat_eq c.loop-x.x-counter) c.args.reached.now.keys ≡ true = (c.requires.reached c.loop-x.x-counter).1 reached in let other : list_any (nat_eq c.loop-x.x-counter) c.args.reached.now.keys ≡ false = sym c.contains.ensures ∙ w.if-contains.false in absurd cc
    ]

pub returns : goal.returns
returns c = faultless_all c.args.models.now c.loop-x.x-counter c.loop-x-test.false c.loop-x.invariant
