use Rattle.recovery_depth.specs.Private.ChainEnds.{AreChainEnds}
use Rattle.recovery_depth.proofs.longest_chains.chain_ends.Given as goal

abbrev pub invariant-loop-g : goal.invariant-loop-g
invariant-loop-g l = AreChainEnds l.places l.last.reaches.now l.depths l.last.is_register.now l.last.before.now l.last.none l.g l.ends.items
