use Rattle.std.proofs.Common.{◌+◌, ◌-◌, length, arith}
use Rattle.triplicate.specs.Planned.{plan_votes}
use Rattle.hardened_text.proofs.BlockPuts.{node_copies, input_copies}
use Rattle.hardened_text.proofs.design.put_own_copies.Goals as goal

pub returns-then-x-inputs : goal.returns-then-x-inputs
returns-then-x-inputs c = input_copies c.args.n.now.net c.args.plan.now.parts (plan_votes c.args.n.now.net c.args.plan.now) c.args.free c.args.x c.args.out.now.items (omega (arith, c.input_count-inputs.ensures.count, c.if-x-inputs.true))

pub returns : goal.returns
returns c =
    let put = node_copies c.args.n.now.net c.args.plan.now.parts (plan_votes c.args.n.now.net c.args.plan.now) c.args.free c.args.x (c.args.x - c.input_count-inputs.result) (length c.args.n.now.net.inputs + (c.args.x - c.input_count-inputs.result)) c.make_room.new.out.items c.put_copies.new.out.items
    (omega (arith, c.input_count-inputs.ensures.count, c.if-x-inputs.false)) (omega (arith, c.input_count-inputs.ensures.count)) (omega (arith, c.input_count-inputs.ensures.count, c.if-x-inputs.false)) c.in_ok-put_copies.ensures in
    let room = c.in_ok-make_room.ensures in
    cc
