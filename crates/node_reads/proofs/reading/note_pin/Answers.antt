use Rattle.std.proofs.Common.{◌≡◌, ℕ, ◌+◌, ◌-◌, List, length, get_or, sym, subst, arith}
use Rattle.flat_net.specs.Net.{node_of, pins_at}
use Rattle.node_reads.proofs.PinLaws.{Marked, node_pins, pin_noted}
use Rattle.node_reads.proofs.reading.note_pin.Goals as goal

pub returns : goal.returns
returns c =
    let net = c.args.n.now.net in
    let x = c.pin-pin.result.0 - c.input_count-inputs.result in
    let inputs : c.input_count-inputs.result ≡ length net.inputs = c.input_count-inputs.ensures.count in
    let pin : c.pin-pin.result.0 ≡ get_or (node_pins net c.args.y) c.args.j 0 =
    subst (λ (a : ℕ). c.pin-pin.result.0 ≡ get_or (pins_at (node_of net (a + c.args.y))) c.args.j 0) inputs c.pin-pin.ensures.value in
    let at : get_or (node_pins net c.args.y) c.args.j 0 ≡ length net.inputs + x = omega (arith, pin, inputs, c.if-pin-inputs.false) in
    subst (λ (rows : List (List ℕ)). Marked net c.args.y (c.args.j + 1) rows) (sym c.in_ok-note.ensures.rows)
    (pin_noted net c.args.y c.args.j x c.args.rows.now c.requires.listed c.requires.pin at c.if-x-y.false (omega arith))
