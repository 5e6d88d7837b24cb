use Rattle.std.proofs.Common.{◌≡◌, replicate, []}
use Rattle.node_reads.specs.Private.Dealt.{logs_of}
use Rattle.node_reads.proofs.dealing.empty_blocks.Given as goal

abbrev pub invariant-loop-b : goal.invariant-loop-b
invariant-loop-b l = logs_of l.blocks.items ≡ replicate l.b []
