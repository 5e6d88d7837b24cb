use Rattle.std.proofs.Common.{rules, ◌+◌, sym, subst, take, map}
use Rattle.blif_text.specs.Views.{plain_model, plain_element}
use Rattle.hierarchy.specs.Private.Bindings.{AreLinks, AreRows}
use Rattle.hierarchy.proofs.Linking.{row_more}
use Rattle.hierarchy.proofs.walking.bindings.all_links.Goals as goal

pub loop-model-preserved : goal.loop-model-preserved
loop-model-preserved c =
    let told : AreLinks c.args.looked.now.names.keys c.args.holds.now c.in_ok-links.links.items (map plain_element c.model-item.result.elements.items) = search rules in
    subst (λ rows. AreRows c.args.looked.now.names.keys c.args.holds.now rows (map plain_model (take (c.loop-model.model-index + 1) c.args.models.now))) (sym c.in_ok-push.ensures.items)
    (row_more c.args.looked.now.names.keys c.args.holds.now c.loop-model.rows.items c.args.models.now c.loop-model.model-index _ c.model-item.result c.loop-model-test.true c.model-item.is c.loop-model.invariant told)
