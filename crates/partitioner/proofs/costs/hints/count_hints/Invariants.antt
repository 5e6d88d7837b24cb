use Rattle.partitioner.proofs.HintLaws.{Hinted}
use Rattle.partitioner.proofs.costs.hints.count_hints.Given as goal

abbrev pub invariant-loop-j : goal.invariant-loop-j
invariant-loop-j l = Hinted l.mover.net.now.net l.mover.size l.mover.parts.now l.mover.node l.row l.mover.gains.now l.hints l.j
