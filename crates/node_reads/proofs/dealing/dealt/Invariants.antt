use Rattle.std.proofs.Common.{◌+◌, ◌/◌, length, take}
use Rattle.node_reads.specs.Private.Dealt.{logs_of, AreDealt}
use Rattle.node_reads.proofs.dealing.dealt.Given as goal

abbrev pub invariant-loop-k : goal.invariant-loop-k
invariant-loop-k l = AreDealt 16384 (length l.tallies / 16384 + 1) (take l.k l.log) (logs_of l.blocks.items)
