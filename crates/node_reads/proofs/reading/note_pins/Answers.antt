use Rattle.std.proofs.Common.{◌≡◌, ℕ, ◌+◌, length, subst, arith}
use Rattle.flat_net.specs.Net.{node_of, pins_at}
use Rattle.node_reads.proofs.PinLaws.{node_pins, pins_end}
use Rattle.node_reads.proofs.reading.note_pins.Goals as goal

pub returns : goal.returns
returns c =
    let net = c.args.n.now.net in
    let pins : c.pin_count-j-end.result ≡ length (node_pins net c.args.y) =
    subst (λ (a : ℕ). c.pin_count-j-end.result ≡ length (pins_at (node_of net (a + c.args.y)))) c.input_count.ensures.count c.pin_count-j-end.ensures in
    pins_end net c.args.y c.loop-j.j c.loop-j.rows c.loop-j.invariant (omega (arith, pins, c.loop-j-test.false))
