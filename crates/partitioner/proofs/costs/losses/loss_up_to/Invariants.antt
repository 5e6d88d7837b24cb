use Rattle.std.proofs.Common.{◌≡◌, ◌≤◌, ◌+◌}
use Rattle.partitioner.proofs.LossLaws.{loss_so_far}
use Rattle.partitioner.proofs.costs.losses.loss_up_to.Given as goal

abbrev pub invariant-loop-j : goal.invariant-loop-j
invariant-loop-j l = (l.loss ≡ loss_so_far l.n.net l.p.of.items l.i l.q l.row l.j) × (l.loss ≤ l.j + 1)
