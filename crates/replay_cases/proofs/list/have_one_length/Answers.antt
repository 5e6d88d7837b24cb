use Rattle.std.proofs.Common.{◌<◌, ◌∙◌, length, sym, arith}
use Rattle.std.proofs.lemmas.Option.{slice_get_within}
use Rattle.flat_net.proofs.Slots.{slice_get_there}
use Rattle.replay_cases.proofs.list.have_one_length.Goals as goal

pub returns : goal.returns
returns c = λ yes i j s r at_s at_r.
    let i_in : i < length c.args.list.now = slice_get_within c.args.list.now i s at_s in
    let j_in : j < length c.args.list.now = slice_get_within c.args.list.now j r at_r in
    let (z, at_z) = slice_get_there c.args.list.now 0 (omega arith) in
    c.loop-j.invariant i s z (omega arith) at_s at_z ∙ sym (c.loop-j.invariant j r z (omega arith) at_r at_z)
