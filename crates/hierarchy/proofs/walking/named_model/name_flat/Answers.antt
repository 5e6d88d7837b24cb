use Rattle.std.proofs.Common.{◌≡◌, map, subst}
use Rattle.std.specs.Prelude.{flat_map, IfOk, OnOk, IfErr}
use Rattle.std.specs.Str.{bytes_eq}
use Rattle.indexmap.specs.IndexMap.{get}
use Rattle.blif_text.specs.Views.{plain_element}
use Rattle.library_faults.specs.Flat.{named}
use Rattle.hierarchy.specs.Clash.{nets_of}
use Rattle.hierarchy.specs.Private.Naming.{AreNamed, IsNamingFault}
use Rattle.hierarchy.proofs.Totals.{all_to_come}
use Rattle.hierarchy.specs.Private.Walk.{library_of}
use Rattle.hierarchy.proofs.walking.named_model.name_flat.Goals as goal

pub returns-clause-elements : goal.returns-clause-elements
returns-clause-elements c = subst (λ es. IfOk c.name_elements.result (λ found. map plain_element found.items ≡ map named es)) (all_to_come (library_of c.args.ready.now) c.in_ok-walk.walk c.in_ok-walk.ensures.frames) c.name_elements.ensures.elements

pub returns-clause-named : goal.returns-clause-named
returns-clause-named c = subst (λ es. OnOk c.name_elements.result (AreNamed (get bytes_eq c.args.texts.now) (get bytes_eq c.name_elements.new.texts) (flat_map nets_of es))) (all_to_come (library_of c.args.ready.now) c.in_ok-walk.walk c.in_ok-walk.ensures.frames) c.name_elements.ensures.named

pub returns-clause-fault : goal.returns-clause-fault
returns-clause-fault c = subst (λ es. IfErr c.name_elements.result (λ fault. IsNamingFault (get bytes_eq c.args.texts.now) (flat_map nets_of es) fault)) (all_to_come (library_of c.args.ready.now) c.in_ok-walk.walk c.in_ok-walk.ensures.frames) c.name_elements.ensures.fault
