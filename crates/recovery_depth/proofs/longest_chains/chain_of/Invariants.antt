use Rattle.std.proofs.Common.{◌≡◌, ◌++◌, ◌-◌, map, reverse}
use Rattle.flat_net.specs.Nodes.{number_of}
use Rattle.recovery_depth.specs.Private.LastRegisters.{number_at}
use Rattle.recovery_depth.specs.Private.ChainEnds.{walked}
use Rattle.recovery_depth.proofs.longest_chains.chain_of.Given as goal

abbrev pub invariant-loop-step : goal.invariant-loop-step
invariant-loop-step l = map (number_at l.originals) (walked l.before l.depth l.top) ≡ map (number_at l.originals) (walked l.before (l.depth - l.step) l.register) ++ map number_of (reverse l.chain.items)
