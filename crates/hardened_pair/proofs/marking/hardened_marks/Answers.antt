use Rattle.std.proofs.Common.{◌+◌, ◌<◌, length, arith}
use Rattle.certificate.specs.Starts.{counted}
use Rattle.triplicate.proofs.Marks.{marks_next, marks_all}
use Rattle.hardened_pair.proofs.marking.hardened_marks.Goals as goal

pub loop-i-preserved : goal.loop-i-preserved
loop-i-preserved c =
    let within : c.loop-i.i < length c.args.c.now.roles = omega (arith, c.requires.fits.hardened_nodes, c.nodes_of-count.ensures.count, c.loop-i-test.true) in
    marks_next c.args.c.now (counted c.args.c.now c.args.n.now.free) c.loop-i.i (c.hardened_inputs-inputs.result + c.loop-i.i) c.loop-i.marks.items _ c.mark_of.result within (omega (arith, c.hardened_inputs-inputs.ensures.value)) c.mark_of.ensures c.loop-i.invariant c.in_ok-push.ensures.items

pub returns : goal.returns
returns c = marks_all c.args.c.now (counted c.args.c.now c.args.n.now.free) c.loop-i.i c.loop-i.marks.items (omega (arith, c.requires.fits.hardened_nodes, c.nodes_of-count.ensures.count, c.loop-i-test.false)) c.loop-i.invariant
