use Rattle.std.proofs.Common.{◌+◌, sym, subst, take, map}
use Rattle.blif_text.specs.Views.{plain_element}
use Rattle.hierarchy.specs.Private.Bindings.{AreLinks}
use Rattle.hierarchy.proofs.Linking.{link_more}
use Rattle.hierarchy.proofs.walking.bindings.links_of.Goals as goal

pub loop-element-preserved : goal.loop-element-preserved
loop-element-preserved c =
    subst (λ links. AreLinks c.args.looked.now.names.keys c.args.holds.now links (map plain_element (take (c.loop-element.element-index + 1) c.args.elements.now))) (sym c.in_ok-push.ensures.items)
    (link_more c.args.looked.now.names.keys c.args.holds.now c.loop-element.links.items c.args.elements.now c.loop-element.element-index _ c.element-item.result c.loop-element-test.true c.element-item.is c.loop-element.invariant c.in_ok-link_of.ensures)
