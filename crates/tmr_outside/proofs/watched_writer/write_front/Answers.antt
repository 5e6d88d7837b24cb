use Rattle.std.proofs.Common.{subst}
use Rattle.std.specs.Io.{WritesAtMost}
use Rattle.std.specs.Io.KnownBytes.{WriteAppends}
use Rattle.tmr_outside.proofs.WritingLemmas.{write_front-bound, write_front-bytes}
use Rattle.tmr_outside.proofs.watched_writer.write_front.Goals as goal

pub returns-clause-bound : goal.returns-clause-bound
returns-clause-bound g c = write_front-bound c.write.result 1048576 c.args.bytes.now (subst (WritesAtMost c.write.result) c.front.ensures c.write.ensures.bound)

pub returns-clause-bytes : goal.returns-clause-bytes
returns-clause-bytes g c = write_front-bytes _ _ c.write.result 1048576 c.args.bytes.now
    (subst (WritesAtMost c.write.result) c.front.ensures c.write.ensures.bound)
    (subst (WriteAppends _ _ c.write.result) c.front.ensures c.write.ensures.bytes)
