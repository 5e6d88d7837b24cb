use Rattle.std.proofs.Common.{◌≡◌, ◌<◌, ◌∙◌, List, length, get_or, map, subst, sym, ap, rules}
use Rattle.std.specs.Str.{bytes_eq}
use Rattle.indexmap.specs.IndexMap.{get}
use Rattle.blif_text.specs.declared.library.BlifModel.{BlifModel}
use Rattle.blif_text.specs.Views.{plain_model, plain_element}
use Rattle.library_faults.specs.Flat.{main_of}
use Rattle.hierarchy.specs.Clash.{main_net}
use Rattle.hierarchy.specs.Private.Naming.{AreNamed, IsNamingFault, IsClash}
use Rattle.library_faults.proofs.Models.{at_model, first_model}
use Rattle.hierarchy.proofs.WholeModel.{all_named, input_fault, element_fault, output_fault, whole_model, none_at_first}
use Rattle.hierarchy.specs.Private.Walk.{library_of}
use Rattle.hierarchy.proofs.walking.named_model.named_model.Goals as goal

-- the first model is the main model
main_is : (models : List BlifModel) (main : BlifModel) → 0 < length models → main ≡ get_or models 0 main → plain_model (get_or models 0 main) ≡ main_of (map plain_model models)
main_is models main some is = ap plain_model (sym is) ∙ (sym (at_model models 0 main some is) ∙ first_model (map plain_model models))

pub returns-in_err-inputs-clause-fault : goal.returns-in_err-inputs-clause-fault
returns-in_err-inputs-clause-fault c =
    let told : IsClash (library_of c.args.ready.now) c.in_err-inputs.field-0.0 = input_fault (library_of c.args.ready.now) (get bytes_eq c.new-texts.result) (get bytes_eq c.new-texts.result) (get bytes_eq c.new-texts.result) (none_at_first c.new-texts.result.entries c.new-texts.ensures.empty) c.in_err-inputs.field-0.0
    (subst (λ ns. IsNamingFault (get bytes_eq c.new-texts.result) (map main_net ns) c.in_err-inputs.field-0.0) inputs c.in_err-inputs.ensures.fault) in
    search rules
  where
    inputs : c.deref.result.now ≡ (main_of (library_of c.args.ready.now)).inputs
    inputs = c.deref.ensures.value ∙ ap (λ m. m.inputs) (main_is c.args.ready.now.models.now c.index-ready-0.result c.requires.some c.index-ready-0.is)

pub returns-in_err-elements-clause-fault : goal.returns-in_err-elements-clause-fault
returns-in_err-elements-clause-fault c =
    let told : IsClash (library_of c.args.ready.now) c.in_err-elements.field-0.0 = element_fault (library_of c.args.ready.now) (get bytes_eq c.new-texts.result) (get bytes_eq c.name_ports.new.texts) (get bytes_eq c.name_ports.new.texts) (none_at_first c.new-texts.result.entries c.new-texts.ensures.empty) c.in_err-elements.field-0.0 (subst (λ ns. AreNamed (get bytes_eq c.new-texts.result) (get bytes_eq c.name_ports.new.texts) (map main_net ns)) inputs c.in_ok-inputs.ensures.named) c.in_err-elements.ensures.fault in
    search rules
  where
    inputs : c.deref.result.now ≡ (main_of (library_of c.args.ready.now)).inputs
    inputs = c.deref.ensures.value ∙ ap (λ m. m.inputs) (main_is c.args.ready.now.models.now c.index-ready-0.result c.requires.some c.index-ready-0.is)

pub returns-in_err-outputs-clause-fault : goal.returns-in_err-outputs-clause-fault
returns-in_err-outputs-clause-fault c =
    let told : IsClash (library_of c.args.ready.now) c.in_err-outputs.field-0.0 = output_fault (library_of c.args.ready.now) (get bytes_eq c.new-texts.result) (get bytes_eq c.name_ports.new.texts) (get bytes_eq c.name_flat.new.texts) (none_at_first c.new-texts.result.entries c.new-texts.ensures.empty) c.in_err-outputs.field-0.0 (subst (λ ns. AreNamed (get bytes_eq c.new-texts.result) (get bytes_eq c.name_ports.new.texts) (map main_net ns)) inputs c.in_ok-inputs.ensures.named) c.in_ok-elements.ensures.named
    (subst (λ ns. IsNamingFault (get bytes_eq c.name_flat.new.texts) (map main_net ns) c.in_err-outputs.field-0.0) outputs c.in_err-outputs.ensures.fault) in
    search rules
  where
    inputs : c.deref.result.now ≡ (main_of (library_of c.args.ready.now)).inputs
    inputs = c.deref.ensures.value ∙ ap (λ m. m.inputs) (main_is c.args.ready.now.models.now c.index-ready-0.result c.requires.some c.index-ready-0.is)

    outputs : c.deref-2.result.now ≡ (main_of (library_of c.args.ready.now)).outputs
    outputs = c.deref-2.ensures.value ∙ ap (λ m. m.outputs) (main_is c.args.ready.now.models.now c.index-ready-0.result c.requires.some c.index-ready-0.is)

pub returns-clause-model : goal.returns-clause-model
returns-clause-model c = whole_model (library_of c.args.ready.now) c.in_ok-name.name c.in_ok-inputs.inputs.items c.in_ok-outputs.outputs.items (map plain_element c.in_ok-elements.elements.items) (c.in_ok-name.ensures ∙ ap (λ m. m.name) (main_is c.args.ready.now.models.now c.index-ready-0.result c.requires.some c.index-ready-0.is)) (c.in_ok-inputs.ensures.text ∙ inputs) (c.in_ok-outputs.ensures.text ∙ outputs) c.in_ok-elements.ensures.elements
  where
    inputs : c.deref.result.now ≡ (main_of (library_of c.args.ready.now)).inputs
    inputs = c.deref.ensures.value ∙ ap (λ m. m.inputs) (main_is c.args.ready.now.models.now c.index-ready-0.result c.requires.some c.index-ready-0.is)

    outputs : c.deref-2.result.now ≡ (main_of (library_of c.args.ready.now)).outputs
    outputs = c.deref-2.ensures.value ∙ ap (λ m. m.outputs) (main_is c.args.ready.now.models.now c.index-ready-0.result c.requires.some c.index-ready-0.is)

pub returns-clause-clear : goal.returns-clause-clear
returns-clause-clear c = all_named (library_of c.args.ready.now) (get bytes_eq c.new-texts.result) (get bytes_eq c.name_ports.new.texts) (get bytes_eq c.name_flat.new.texts) (get bytes_eq c.name_ports-2.new.texts) (none_at_first c.new-texts.result.entries c.new-texts.ensures.empty) (subst (λ ns. AreNamed (get bytes_eq c.new-texts.result) (get bytes_eq c.name_ports.new.texts) (map main_net ns)) inputs c.in_ok-inputs.ensures.named) c.in_ok-elements.ensures.named (subst (λ ns. AreNamed (get bytes_eq c.name_flat.new.texts) (get bytes_eq c.name_ports-2.new.texts) (map main_net ns)) outputs c.in_ok-outputs.ensures.named)
  where
    inputs : c.deref.result.now ≡ (main_of (library_of c.args.ready.now)).inputs
    inputs = c.deref.ensures.value ∙ ap (λ m. m.inputs) (main_is c.args.ready.now.models.now c.index-ready-0.result c.requires.some c.index-ready-0.is)

    outputs : c.deref-2.result.now ≡ (main_of (library_of c.args.ready.now)).outputs
    outputs = c.deref-2.ensures.value ∙ ap (λ m. m.outputs) (main_is c.args.ready.now.models.now c.index-ready-0.result c.requires.some c.index-ready-0.is)
