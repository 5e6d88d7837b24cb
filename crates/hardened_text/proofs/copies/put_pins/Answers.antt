use Rattle.std.proofs.Common.{◌++◌, arith}
use Rattle.blif_writer.specs.Left.{spaced}
use Rattle.hardened_text.specs.Private.Pieces.{pins_of}
use Rattle.hardened_text.proofs.CopyPuts.{pin_put, pins_done}
use Rattle.hardened_text.proofs.copies.put_pins.Goals as goal

pub loop-j-preserved : goal.loop-j-preserved
loop-j-preserved c =
    pin_put c.args.pieces.now.net.now.net c.args.pieces.now.digits.now c.args.pieces.now.votes.now c.args.pieces.now.node.0 c.args.c c.loop-j.j c.loop-j.out.items c.put_pin.new.out.items (c.args.out.now.items ++ spaced (pins_of c.args.pieces.now c.args.c)) (omega arith) c.in_ok-put_pin.ensures c.loop-j.invariant

pub returns : goal.returns
returns c =
    pins_done c.args.pieces.now.net.now.net c.args.pieces.now.digits.now c.args.pieces.now.votes.now c.args.pieces.now.node.0 c.args.c c.loop-j.j c.loop-j.out.items (c.args.out.now.items ++ spaced (pins_of c.args.pieces.now c.args.c)) (omega (arith, c.pin_count-j-end.ensures, c.loop-j-test.false)) c.loop-j.invariant
