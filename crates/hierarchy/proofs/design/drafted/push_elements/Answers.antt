use Rattle.std.proofs.Common.{◌≡◌, ◌∷◌, ◌++◌, List, map, ap, subst, ◌∙◌, append_assoc}
use Rattle.std.specs.List.{flat_map}
use Rattle.std.specs.Vec.Iter.{into_iter_items}
use Rattle.blif_text.specs.Library.{FitsPins}
use Rattle.blif_text.specs.Views.{plain_element}
use Rattle.blif_text.specs.declared.library.Element.{Element}
use Rattle.flat_net.specs.Draft.{PlainDraft}
use Rattle.hierarchy.specs.Drafted.{drafted}
use Rattle.library_faults.proofs.Items.{first_has, rest_has}
use Rattle.hierarchy.proofs.design.drafted.push_elements.Goals as goal

pub push_element-requires : goal.push_element-requires
push_element-requires c = first_has FitsPins plain_element (into_iter_items c.loop-element.element-iterator) c.in-Some.element (into_iter_items c.next.new.self) c.loop-element.invariant.fits c.in-Some.ensures.steps.0

-- the draft with one element more, and those that are left
more : (old new whole : PlainDraft) (all : List Element) (element : Element) (rest : List Element) → new ≡ record old { elements = old.elements ++ drafted (plain_element element) } → all ≡ element ∷ rest → record old { elements = old.elements ++ flat_map drafted (map plain_element all) } ≡ whole → record new { elements = new.elements ++ flat_map drafted (map plain_element rest) } ≡ whole
more old new whole all element rest is begins so_far =
    ap (λ (d : PlainDraft). record d { elements = d.elements ++ flat_map drafted (map plain_element rest) }) is
    ∙ (ap (λ es. record old { elements = es }) (append_assoc old.elements (drafted (plain_element element)) (flat_map drafted (map plain_element rest)))
    ∙ subst (λ es. record old { elements = old.elements ++ flat_map drafted (map plain_element es) } ≡ whole) begins so_far)

pub loop-element-preserved : goal.loop-element-preserved
loop-element-preserved c = record {
  draft = more _ c.push_element.new.draft _ (into_iter_items c.loop-element.element-iterator) c.in-Some.element (into_iter_items c.next.new.self) c.in_ok-push_element.ensures c.in-Some.ensures.steps.0 c.loop-element.invariant.draft;
  fits = rest_has FitsPins plain_element (into_iter_items c.loop-element.element-iterator) c.in-Some.element (into_iter_items c.next.new.self) c.loop-element.invariant.fits c.in-Some.ensures.steps.0;
}
