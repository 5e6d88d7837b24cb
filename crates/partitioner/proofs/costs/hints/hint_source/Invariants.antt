use Rattle.std.proofs.Common.{slice_index}
use Rattle.partitioner.proofs.HintLaws.{IsTold}
use Rattle.partitioner.proofs.costs.hints.hint_source.Given as goal

abbrev pub invariant-loop-q : goal.invariant-loop-q
invariant-loop-q l = IsTold l.fn.hints l.hints l.p.count l.spots.free l.x (slice_index l.p.of.items l.x) l.q-iterator
