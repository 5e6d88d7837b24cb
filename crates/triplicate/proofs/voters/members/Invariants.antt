use Rattle.node_reads.specs.Noting.{Lists}
use Rattle.triplicate.specs.Private.Noted.{is_in}
use Rattle.triplicate.proofs.voters.members.Given as goal

abbrev pub invariant-loop-y : goal.invariant-loop-y
invariant-loop-y l = Lists (is_in l.parts) l.y l.parts.count l.rows
