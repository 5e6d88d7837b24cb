use Rattle.std.proofs.Common.{◌≡◌, length}
use Rattle.std.specs.Io.KnownBytes.{Keeps}
use Rattle.tmr_outside.proofs.source.CountedSource.read_some.Given as goal

abbrev pub invariant-loop : goal.invariant-loop
invariant-loop g l = record {
  length : length l.buffer ≡ length l.initial.buffer;
  unread : Keeps (g.F.Read.remaining l.initial.self.file) (g.F.Read.remaining l.self.file);
  failed : l.self.failed ≡ l.initial.self.failed;
  starved : l.self.starved ≡ l.initial.self.starved;
}
