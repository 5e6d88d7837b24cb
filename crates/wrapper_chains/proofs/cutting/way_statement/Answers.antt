use Rattle.std.proofs.Common.{◌∙◌, ap, arith, get_or, length, map}
use Rattle.blif_text.specs.Views.{plain_element}
use Rattle.library_faults.specs.Private.Entries.{entry_at}
use Rattle.wrapper_chains.proofs.WayLaws.{of_way}
use Rattle.wrapper_chains.proofs.cutting.way_statement.Goals as goal

pub returns-then-way-names : goal.returns-then-way-names
returns-then-way-names c = of_way c.args.looked.now.names.keys c.args.looked.now.positions.items c.args.ways.now c.args.x c.in-Some.way.now _ _ (map plain_element c.in_ok-elements.elements.items)
    (c.in-Some.ensures ∙ ap (λ ps. entry_at ps c.args.ways.now c.args.x) c.deref.ensures.value)
    c.if-way-x.true
    (omega (arith, c.if-way-names.true, ap length c.as_slice-names.ensures.keys))
    (c.index-names-way.is ∙ ap (λ ns. get_or ns c.in-Some.way.now.base c.index-names-way.result) c.as_slice-names.ensures.keys)
    c.deref-then-way-names.ensures.value c.in_ok-elements.ensures
