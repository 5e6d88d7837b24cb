use Rattle.std.proofs.Common.{◌<◌, length, arith}
use Rattle.flat_net.specs.Net.{node_of, pins_at}
use Rattle.net_simulator.proofs.Literals.{mark_pushed, has_pushed}
use Rattle.net_simulator.proofs.tables.push_row.Goals as goal

pub loop-i-preserved : goal.loop-i-preserved
loop-i-preserved c =
    let pins = pins_at (node_of c.args.net.now.net c.args.x.0) in
    let in_row : c.loop-i.i < length c.args.row.now = omega arith in
    let in_pins : c.loop-i.i < length pins = omega arith in
    record {
      literals = mark_pushed _ c.loop-i.literals.items c.push_mark.new.literals.items c.loop-i.begun c.in_ok-begun.begun c.args.row.now pins c.loop-i.i c.wanted.result c.pin.result.0
          c.loop-i.invariant.literals c.in_ok-begun.ensures.literals c.in_ok-begun.ensures.some in_row in_pins c.wanted.ensures c.pin.ensures.value;
      some = has_pushed _ c.loop-i.begun c.in_ok-begun.begun c.args.row.now pins c.loop-i.i c.wanted.result c.loop-i.invariant.some c.in_ok-begun.ensures.some in_row in_pins c.wanted.ensures;
    }
