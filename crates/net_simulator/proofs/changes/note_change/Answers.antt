use Rattle.std.proofs.Common.{◌≡◌, ◌∙◌, ◌<◌, List, true, false, length, map, slice_index, slice_set, sym, ap, arith}
use Rattle.std.proofs.lemmas.List.{get_or-set_same}
use Rattle.tmr_base.specs.declared.ids.NetId.{NetId}
use Rattle.flat_net.specs.Nodes.{number_of}
use Rattle.net_meaning.specs.Meaning.{bit}
use Rattle.net_simulator.specs.Beside.{origin_of}
use Rattle.net_simulator.proofs.TwinLaws.{origin_within}
use Rattle.net_simulator.proofs.changes.note_change.Goals as goal

pub index_mut-requires : goal.index_mut-requires
index_mut-requires c =
    let at : c.origin_at-origin.result.0 ≡ origin_of c.args.twins.now c.args.x.0 = c.origin_at-origin.ensures ∙ ap (λ (os : List NetId). slice_index (map number_of os) c.args.x.0) c.deref.ensures.value in
    let within = origin_within c.args.twins.now.origins.items (length c.args.changes.now.differing.items) c.args.x.0 c.requires.room.range (omega arith) in
    omega (arith, at, within)

pub returns-then-is_changed-clause-differing : goal.returns-then-is_changed-clause-differing
returns-then-is_changed-clause-differing c = λ yes.
    let at : c.origin_at-origin.result.0 ≡ origin_of c.args.twins.now c.args.x.0 = c.origin_at-origin.ensures ∙ ap (λ (os : List NetId). slice_index (map number_of os) c.args.x.0) c.deref.ensures.value in
    let within = origin_within c.args.twins.now.origins.items (length c.args.changes.now.differing.items) c.args.x.0 c.requires.room.range (omega arith) in
    let here : c.origin_at-origin.result.0 < length c.args.changes.now.differing.items = omega (arith, at, within) in
    ap (bit (slice_set c.args.changes.now.differing.items c.origin_at-origin.result.0 true)) (sym at)
    ∙ get_or-set_same c.args.changes.now.differing.items c.origin_at-origin.result.0 true false here
