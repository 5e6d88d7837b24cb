use Rattle.std.proofs.Common.{◌≡◌, length}
use Rattle.recovery_depth.specs.Private.ChainEnds.{AreRead}
use Rattle.recovery_depth.proofs.longest_chains.depths_and_chains.Given as goal

abbrev pub invariant-loop-p : goal.invariant-loop-p
invariant-loop-p l = record {
  long : length l.deeps.items ≡ l.p;
  read : AreRead l.before l.originals l.ends l.depths l.deeps.items;
}
