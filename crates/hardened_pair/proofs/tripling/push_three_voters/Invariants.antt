use Rattle.std.proofs.Common.{◌≡◌, ◌++◌, take}
use Rattle.certificate.specs.declared.role.Role.TheVariants.{Voter}
use Rattle.triplicate.specs.Blocks.{threefold}
use Rattle.hardened_pair.specs.Private.Made.{IsMade}
use Rattle.hardened_pair.proofs.tripling.push_three_voters.Given as goal

abbrev pub invariant-loop-c : goal.invariant-loop-c
invariant-loop-c l = record {
  made : IsMade l.layout l.made;
  roles : l.made.roles.items ≡ l.fn.made.roles.items ++ take l.c-index (threefold (Voter l.voted.net l.p));
}
