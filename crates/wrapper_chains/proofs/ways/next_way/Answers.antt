use Rattle.std.proofs.Common.{◌∙◌, get_or, sym, ap, subst}
use Rattle.std.specs.Prelude.{IfSome}
use Rattle.blif_text.specs.Views.{plain_element}
use Rattle.wrapper_chains.specs.Private.Ways.{IsHandedWay}
use Rattle.library_faults.specs.Private.Entries.{entry_named}
use Rattle.wrapper_chains.proofs.Handing.{if_found}
use Rattle.wrapper_chains.proofs.WayLaws.{next_handed, next_end}
use Rattle.wrapper_chains.proofs.ways.next_way.Goals as goal

pub returns-in-Some-2 : goal.returns-in-Some-2
returns-in-Some-2 c = next_handed c.args.models.now c.args.looked.now.names.keys c.args.holds.now c.args.looked.now.order.items c.args.looked.now.positions.items c.args.ways.now c.args.x c.index-models-x.result c.deref.result.now c.requires.looked.names c.requires.bare c.requires.looked.ordered c.requires.here c.requires.at c.index-models-x.is (c.deref.ensures.value ∙ ap (λ m. m.elements.items) (sym c.index-models-x.is)) c.in-Some.i c.index.result.now c.in-Instance.model c.in-Instance.bindings.items c.deref-in-Instance.result.now c.in-Some-2.way c.requires.looked.places c.requires.ways c.in-Some.ensures (c.index.ensures ∙ ap (λ m. get_or m.elements.items c.in-Some.i c.index.result.now) (sym c.index-models-x.is)) (ap plain_element c.in-Instance.is) c.deref-in-Instance.ensures.value
    (subst (λ found. IfSome found (λ way. IsHandedWay (entry_named c.args.looked.now.names.keys c.args.looked.now.positions.items c.args.ways.now c.in-Instance.model) c.deref-in-Instance.result.now way)) c.in-Some-2.is c.in_ok-way.ensures)

pub returns : goal.returns
returns c = if_found c.end_way.result _ _ (λ way h. next_end c.args.models.now c.args.looked.now.order.items c.args.looked.now.positions.items c.args.looked.now.counts.items _ c.args.x way c.requires.looked.ordered c.requires.looked.places c.requires.looked.counts c.requires.here c.requires.at h) c.end_way.ensures
