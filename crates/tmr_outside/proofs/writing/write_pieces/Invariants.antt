use Rattle.std.proofs.Common.{◌≡◌, ◌++◌, List, ℕ}
use Rattle.std.specs.Io.KnownBytes.{Appends}
use Rattle.tmr_outside.proofs.writing.write_pieces.Given as goal

abbrev pub invariant-loop-to : goal.invariant-loop-to
invariant-loop-to g l = record {
  given : List ℕ;
  taken : given ++ g.G.Giver.rest l.from ≡ g.G.Giver.rest l.initial.from;
  written : Appends (g.W.Write.contents l.initial.to) (g.W.Write.contents l.to) given;
}

abbrev pub decreases-loop-to : goal.decreases-loop-to
decreases-loop-to g l = g.G.Giver.left l.from
