use Rattle.std.proofs.Common.{rules, ◌≡◌, ◌∙◌, ◌<◌, ◌++◌, sym, ap, map, get_or, length, subst, arith}
use Rattle.std.proofs.lemmas.List.{length-map}
use Rattle.std.specs.Prelude.{flat_map}
use Rattle.std.specs.Str.{bytes_eq}
use Rattle.indexmap.specs.IndexMap.{get}
use Rattle.blif_text.specs.Views.{plain_model, plain_element}
use Rattle.hierarchy.specs.Clash.{nets_of}
use Rattle.hierarchy.specs.Private.Naming.{IsNamingFault}
use Rattle.hierarchy.specs.Private.Walk.{levels_of, coming, IsNext, IsNextElement, library_of}
use Rattle.wrapper_chains.specs.Private.Placed.{placed_element}
use Rattle.library_faults.specs.Private.Models.{element_at}
use Rattle.hierarchy.proofs.Moved.{at_element}
use Rattle.library_faults.proofs.Models.{at_model}
use Rattle.hierarchy.proofs.Passing.{split_more, found_more, named_passed, fault_passed}
use Rattle.hierarchy.proofs.walking.named_element.name_elements.Goals as goal

pub elements-preserved : goal.elements-preserved
elements-preserved c = record {
  walking = next.walking;
  passed = c.elements.invariant.passed ++ placed_element (levels_of (library_of c.args.ready.now) c.next_element.new.walk) (plain_element c.index.result.now);
  split = split_more c.elements.invariant.passed _ _ _ _ comes c.elements.invariant.split;
  found = ap (map plain_element) c.in_ok-push.ensures.items ∙ found_more c.elements.elements.items c.in_ok-element.element c.elements.invariant.passed _ c.elements.invariant.found c.in_ok-element.ensures.element;
  named = named_passed (get bytes_eq c.args.texts.now) (get bytes_eq c.elements.texts) (get bytes_eq c.name_element.new.texts) c.elements.invariant.passed _ c.elements.invariant.named c.in_ok-element.ensures.named;
}
  where
    next : IsNextElement (library_of c.args.ready.now) c.elements.walk c.in-Some.x c.in-Some.i c.next_element.new.walk
    next = subst (λ o. IsNext (library_of c.args.ready.now) c.elements.walk o c.next_element.new.walk) c.in-Some.is c.in_ok-x.ensures

    below : c.in-Some.x < length c.args.ready.now.models.now
    below = omega (arith, next.model, length-map c.args.ready.now.models.now plain_model)

    element : element_at (library_of c.args.ready.now) c.in-Some.x c.in-Some.i ≡ plain_element c.index.result.now
    element = at_element c.args.ready.now.models.now c.in-Some.x c.in-Some.i c.index-ready-x.result c.index.result.now below c.index-ready-x.is
        (omega (arith, next.element, ap (λ m. length m.elements) (at_model c.args.ready.now.models.now c.in-Some.x c.index-ready-x.result below c.index-ready-x.is), length-map c.index-ready-x.result.elements.items plain_element))
        (c.index.ensures ∙ ap (λ m. get_or m.elements.items c.in-Some.i c.index.result.now) (sym c.index-ready-x.is))

    comes : coming (library_of c.args.ready.now) c.elements.walk ≡ placed_element (levels_of (library_of c.args.ready.now) c.next_element.new.walk) (plain_element c.index.result.now) ++ coming (library_of c.args.ready.now) c.next_element.new.walk
    comes = next.comes ∙ ap (λ e. placed_element (levels_of (library_of c.args.ready.now) c.next_element.new.walk) e ++ coming (library_of c.args.ready.now) c.next_element.new.walk) element

pub returns-in_err-element-clause-fault : goal.returns-in_err-element-clause-fault
returns-in_err-element-clause-fault c =
    let told : IsNamingFault (get bytes_eq c.args.texts.now) (flat_map nets_of (coming (library_of c.args.ready.now) c.args.walk.now)) c.in_err-element.field-0.0 =
    fault_passed (get bytes_eq c.args.texts.now) (get bytes_eq c.elements.texts) c.elements.invariant.passed _ _ _ _ c.in_err-element.field-0.0 comes c.elements.invariant.split c.elements.invariant.named c.in_err-element.ensures.fault in
    search rules
  where
    next : IsNextElement (library_of c.args.ready.now) c.elements.walk c.in-Some.x c.in-Some.i c.next_element.new.walk
    next = subst (λ o. IsNext (library_of c.args.ready.now) c.elements.walk o c.next_element.new.walk) c.in-Some.is c.in_ok-x.ensures

    below : c.in-Some.x < length c.args.ready.now.models.now
    below = omega (arith, next.model, length-map c.args.ready.now.models.now plain_model)

    element : element_at (library_of c.args.ready.now) c.in-Some.x c.in-Some.i ≡ plain_element c.index.result.now
    element = at_element c.args.ready.now.models.now c.in-Some.x c.in-Some.i c.index-ready-x.result c.index.result.now below c.index-ready-x.is
        (omega (arith, next.element, ap (λ m. length m.elements) (at_model c.args.ready.now.models.now c.in-Some.x c.index-ready-x.result below c.index-ready-x.is), length-map c.index-ready-x.result.elements.items plain_element))
        (c.index.ensures ∙ ap (λ m. get_or m.elements.items c.in-Some.i c.index.result.now) (sym c.index-ready-x.is))

    comes : coming (library_of c.args.ready.now) c.elements.walk ≡ placed_element (levels_of (library_of c.args.ready.now) c.next_element.new.walk) (plain_element c.index.result.now) ++ coming (library_of c.args.ready.now) c.next_element.new.walk
    comes = next.comes ∙ ap (λ e. placed_element (levels_of (library_of c.args.ready.now) c.next_element.new.walk) e ++ coming (library_of c.args.ready.now) c.next_element.new.walk) element
