use Rattle.std.proofs.Common.{◌≡◌, ◌+◌, ◌*◌, length, map, ap, ◌∙◌, arith}
use Rattle.std.specs.Prelude.{codes}
use Rattle.std.specs.Str.{bytes_eq}
use Rattle.std.specs.List.{range_with_len}
use Rattle.std.proofs.lemmas.List.{length-map}
use Rattle.indexmap.specs.IndexSet.{insert_key}
use Rattle.flat_net.specs.Net.{net_count}
use Rattle.flat_net.specs.Nodes.{number_of}
use Rattle.dwc.specs.Guard.{any_cover, alarm, guard_net}
use Rattle.dwc.proofs.Nodes.{alarm_get}
use Rattle.dwc.proofs.Making.{room_for_pins, alarm_is, table_more}
use Rattle.dwc.proofs.Valid.{length-range}
use Rattle.dwc.proofs.comparing.push_alarm.Goals as goal

pub push_table-requires : goal.push_table-requires
push_table-requires c =
    let n = c.args.n.now.net in
    let long = ap length (ap (map number_of) c.deref.ensures.value ∙ c.in_ok-pins.ensures) in
    omega (arith, room_for_pins (guard_net n) (2 * length n.nodes + length n.outputs) (alarm n) c.args.made.now c.requires.valid (alarm_get n) c.requires.made, length-range (2 * net_count n) (length n.outputs), long, length-map c.deref.result.now number_of)

pub returns : goal.returns
returns c =
    let n = c.args.n.now.net in
    let pins : map number_of c.deref.result.now ≡ range_with_len (2 * net_count n) (length n.outputs) = ap (map number_of) c.deref.ensures.value ∙ c.in_ok-pins.ensures in
    table_more (guard_net n) (2 * length n.nodes + length n.outputs) (alarm n) c.args.made.now _ (codes "alarm~z") c.in_ok-cover.cover _ c.requires.valid (alarm_get n) c.requires.made
    (alarm_is n (map number_of c.deref.result.now) c.in_ok-cover.cover (c.in_ok-cover.ensures ∙ ap any_cover c.output_count.ensures) pins)
    (c.in_ok-insert.ensures.keys ∙ ap (insert_key bytes_eq c.args.made.now.names.keys) c.in_ok-name.ensures)
    (λ names done k. c.in_ok-push_table.ensures.table names (codes "alarm~z") done k)
