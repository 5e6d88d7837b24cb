use Rattle.std.proofs.Common.{◌≡◌, ◌<◌, ◌-◌, get_or, sym, ◌∙◌, arith, rules, length, map, ap}
use Rattle.std.proofs.lemmas.List.{get_or_default}
use Rattle.feedback_cut.specs.Private.Gathering.{number_at}
use Rattle.feedback_cut.proofs.GroupLaws.{take_root, all_grouped, turned_numbered}
use Rattle.feedback_cut.proofs.numbering.number_vertices.Goals as goal

pub roots-preserved : goal.roots-preserved
roots-preserved c =
    let fresh : number_at c.args.count c.roots.numbers.items c.index-root.result.now ≡ c.args.count = search rules in
    let within : c.roots.left - 1 < length c.in_ok-searched.searched.order.items = (let f = c.roots.invariant.few in omega (arith, c.roots-test.true)) in
    let at : get_or c.in_ok-searched.searched.order.items (c.roots.left - 1) 0 ≡ c.index-root.result.now = get_or_default c.in_ok-searched.searched.order.items (c.roots.left - 1) 0 c.index-root.result.now within ∙ sym c.index-root.ensures in
    take_root c.args.graph.now c.in_ok-searched.searched.order.items c.in_ok-searched.searched.cut c.in_ok-readers.readers c.args.count c.roots.numbers.items c.in_ok-searched.ensures c.in_ok-readers.ensures c.gather.new.numbers.items c.roots.groups c.roots.left (c.roots.left - 1) c.index-root.result.now c.requires c.roots.invariant (omega (arith, c.roots-test.true)) at fresh c.in_ok-gather.ensures

pub turned-requires : goal.turned-requires
turned-requires c = λ x l.
    let f = all_grouped c.args.graph.now c.in_ok-searched.searched.order.items c.in_ok-searched.searched.cut c.args.count c.roots.numbers.items c.roots.groups c.roots.left c.in_ok-searched.ensures c.roots.invariant c.roots-test.false in
    rw c.as_slice-2.ensures.value (f.below x (omega (arith, f.long, ap length c.as_slice-2.ensures.value, l)))

pub returns : goal.returns
returns c =
    turned_numbered c.args.graph.now c.roots.numbers.items _ c.roots.groups (all_grouped c.args.graph.now c.in_ok-searched.searched.order.items c.in_ok-searched.searched.cut c.args.count c.roots.numbers.items c.roots.groups c.roots.left c.in_ok-searched.ensures c.roots.invariant c.roots-test.false) (c.in_ok-numbers-2.ensures ∙ ap (map (λ k. c.roots.groups - 1 - k)) c.as_slice-2.ensures.value)
