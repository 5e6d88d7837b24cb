use Rattle.std.proofs.Common.{◌+◌, ◌*◌, ◌++◌, ℕ, List, length, ap, ◌∙◌}
use Rattle.std.specs.Prelude.{codes}
use Rattle.std.specs.Str.{bytes_eq}
use Rattle.indexmap.specs.IndexSet.{insert_key}
use Rattle.flat_net.specs.Net.{name_of}
use Rattle.dwc.specs.Guard.{comparator, guard_net}
use Rattle.dwc.proofs.Nodes.{comparator_get}
use Rattle.dwc.proofs.Making.{room_for_pins, comparator_is, table_more}
use Rattle.dwc.proofs.comparing.push_comparator.Goals as goal

pub push_table-requires : goal.push_table-requires
push_table-requires c =
    let n = c.args.n.now.net in
    let y = c.output-y.result.0 in
    room_for_pins (guard_net n) (2 * length n.nodes + c.args.k) (comparator n y) c.args.made.now c.requires.valid (comparator_get n c.args.k y c.output-y.ensures.output) c.requires.made

pub returns : goal.returns
returns c =
    let n = c.args.n.now.net in
    let y = c.output-y.result.0 in
    let name = c.in_ok-name.ensures ∙ ap (λ (a : List ℕ). a ++ codes "~e") c.name.ensures in
    table_more (guard_net n) (2 * length n.nodes + c.args.k) (comparator n y) c.args.made.now _ (name_of n y ++ codes "~e") c.in_ok-cover.cover _ c.requires.valid (comparator_get n c.args.k y c.output-y.ensures.output) c.requires.made
    (comparator_is n y c.twin.result.0 c.twin-2.result.0 c.in_ok-cover.cover c.in_ok-cover.ensures c.twin.ensures c.twin-2.ensures)
    (c.in_ok-insert.ensures.keys ∙ ap (insert_key bytes_eq c.args.made.now.names.keys) name)
    (λ names done k. c.in_ok-push_table.ensures.table names (name_of n y ++ codes "~e") done k)
