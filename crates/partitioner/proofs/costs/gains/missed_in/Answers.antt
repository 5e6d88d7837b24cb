use Rattle.std.proofs.Common.{arith}
use Rattle.partitioner.proofs.GainLaws.{missed_in_all, sources_few}
use Rattle.partitioner.proofs.costs.gains.missed_in.Goals as goal

pub overflow_add-result : goal.overflow_add-result
overflow_add-result c =
    let within = c.requires.counted.gained.within in
    omega (arith, within, sources_few c.args.n.now.net c.args.p.now c.args.i c.requires.counted.tracks c.requires.counted.node, c.requires.counted.tracks.few)

pub overflow_sub-result : goal.overflow_sub-result
overflow_sub-result c = omega (arith, c.near_in.ensures, missed_in_all c.args.n.now.net c.args.p.now c.args.i c.args.q c.args.gains.now c.requires.counted.gained)

pub returns : goal.returns
returns c = omega (arith, c.near_in.ensures, missed_in_all c.args.n.now.net c.args.p.now c.args.i c.args.q c.args.gains.now c.requires.counted.gained)
