use Rattle.std.proofs.Common.{◌≡◌, ◌+◌, ◌-◌, ◌++◌, [], ◌∷◌, ℕ, List, length, refl, ap, ◌∙◌, arith}
use Rattle.std.specs.Prelude.{slice_index}
use Rattle.std.proofs.lemmas.List.FromFn.{length-map-range_with_len}
use Rattle.tmr_base.specs.declared.copies.CopyNo.TheVariants.{First}
use Rattle.tmr_base.specs.Names.{copy_text}
use Rattle.flat_net.specs.Net.{node_of, node_name, pins_at}
use Rattle.feedback_cut.specs.Inner.{node_pins}
use Rattle.certificate.specs.declared.role.Role.TheVariants.{Copy}
use Rattle.hardened_pair.specs.Private.Layouts.{net_of, partitions, voted}
use Rattle.triplicate.specs.Construction.{pin_net}
use Rattle.hardened_pair.specs.Private.Made.{shifted_node}
use Rattle.hardened_pair.proofs.RoleSteps.{made_more, room_for_pins, copy_named, shifted_is}
use Rattle.triplicate.proofs.Sizes.{copy_pins}
use Rattle.hardened_pair.proofs.tripling.push_copy.Goals as goal

pub push_node_copy-requires-clause-pins : goal.push_node_copy-requires-clause-pins
push_node_copy-requires-clause-pins c =
    let y = c.args.x.0 - length (net_of c.args.layout.now).inputs in
    let back : length (net_of c.args.layout.now).inputs + y ≡ c.args.x.0 = omega (arith, c.requires.node) in
    ap length c.requires.pins ∙ (length-map-range_with_len (λ j. pin_net (net_of c.args.layout.now) (partitions c.args.layout.now) (voted c.args.layout.now) y First j (slice_index (node_pins (net_of c.args.layout.now) y) j)) 0 (length (node_pins (net_of c.args.layout.now) y)) ∙ ap (λ z. length (pins_at (node_of (net_of c.args.layout.now) z))) back)

pub push_node_copy-requires-clause-room : goal.push_node_copy-requires-clause-room
push_node_copy-requires-clause-room c =
    let y = c.args.x.0 - length (net_of c.args.layout.now).inputs in
    let back : length (net_of c.args.layout.now).inputs + y ≡ c.args.x.0 = omega (arith, c.requires.node) in
    let long : length c.args.pins.now ≡ length (pins_at (node_of (net_of c.args.layout.now) c.args.x.0)) = ap length c.requires.pins ∙ (length-map-range_with_len (λ j. pin_net (net_of c.args.layout.now) (partitions c.args.layout.now) (voted c.args.layout.now) y First j (slice_index (node_pins (net_of c.args.layout.now) y) j)) 0 (length (node_pins (net_of c.args.layout.now) y)) ∙ ap (λ z. length (pins_at (node_of (net_of c.args.layout.now) z))) back) in
    omega (arith, long, room_for_pins c.args.layout.now c.args.made.now (Copy c.args.x c.args.c) c.requires.layout.room c.requires.made c.requires.next, copy_pins (net_of c.args.layout.now) (partitions c.args.layout.now) (voted c.args.layout.now) c.args.x.0 c.args.c c.requires.node c.requires.range)

pub returns-clause-made : goal.returns-clause-made
returns-clause-made c =
    let same = shifted_is (net_of c.args.layout.now) (partitions c.args.layout.now) (voted c.args.layout.now) c.args.x.0 c.args.c c.args.pins.now c.requires.node c.requires.pins in
    let name = c.in_ok-name.ensures ∙ ap (λ (a : List ℕ). copy_text a c.args.c) c.name.ensures in
    made_more c.args.layout.now c.args.made.now _ (Copy c.args.x c.args.c) (shifted_node c.args.c c.args.pins.now (node_of (net_of c.args.layout.now) c.args.x.0)) c.requires.made refl
    (c.in_ok-push.ensures.items ∙ ap (λ (a : List ℕ). c.args.made.now.waiting.items ++ a ∷ []) name) c.in_ok-push-2.ensures.items same (ap node_name same ∙ copy_named (net_of c.args.layout.now) (partitions c.args.layout.now) (voted c.args.layout.now) c.args.x.0 c.args.c c.requires.node c.requires.range) c.in_ok-push_node_copy.ensures
